-- The limits of templates.
use Rattle.std.specs.Prelude.{ℕ}

abbrev pub max_templates : ℕ
max_templates = 8

abbrev pub max_segments : ℕ
max_segments = 8

-- static bytes lie within the first 128 of a packet
abbrev pub static_limit : ℕ
static_limit = 128
