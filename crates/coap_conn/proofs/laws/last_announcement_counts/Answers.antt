use Rattle.coap_conn.proofs.HistoryLaws.{base_where_none, last_announced, base_token_where_none, last_token}
use Rattle.coap_conn.proofs.laws.last_announcement_counts.Goals as goal

pub returns : goal.returns
returns c = record {
  none = base_where_none;
  last = last_announced;
  no_token = base_token_where_none;
  last_token = last_token;
}
