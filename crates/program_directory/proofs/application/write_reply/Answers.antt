use Rattle.std.proofs.Common.{◌-◌, ◌∙◌, vec_capacity, vec_len}
use Rattle.program_directory.proofs.AnswerLemmas.{other_appended}
use Rattle.program_directory.proofs.application.write_reply.Goals as goal

pub returns-else-write_response : goal.returns-else-write_response
returns-else-write_response c =
    let lacks = c.if-write_response.ensures in
    let other = c.write_response-else-write_response.ensures in
    record {
      written = other_appended (λ v. v.items) (λ v. vec_capacity v - vec_len v) _ _ _ _ _ _
          lacks.answer lacks.unchanged other.answer other.written other.unchanged;
      capacity = other.capacity ∙ lacks.capacity;
    }
