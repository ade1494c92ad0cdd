-- Defined by this project: the space that the options of a response need.
use Rattle.std.specs.Prelude.{ℕ, ◌+◌, ◌*◌, length}
use Rattle.coap_path.specs.Paths.{Path, written_length}

-- The maximum encoded size of a path in options, one for each segment: 5 bytes more than its bytes.
abbrev pub path_size : Path → ℕ
path_size path = written_length path + 4 * length path
