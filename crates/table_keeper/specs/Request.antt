-- How a stream begins that is a request of HTTP.
use Rattle.std.specs.Prelude.{ℕ, Bool, true, false, ◌+◌, ◌&&◌, ◌==◌, nat_lt, if◌then◌else◌}
use Rattle.std.specs.Char.{is_ascii_uppercase}
use Rattle.table_keeper.specs.declared.request.Beginning.{Beginning}
use Rattle.table_keeper.specs.declared.request.Beginning.TheVariants.{Letters, Request, Other}

-- one letter more, where three are as good as more
abbrev pub one_more : ℕ → ℕ
one_more count = if nat_lt count 3 then count + 1 else count

-- what is known once a byte came too: a method is three or more capital letters, and a space ends it
abbrev pub after : Beginning → ℕ → Beginning
after (Letters count) byte = if is_ascii_uppercase byte then Letters (one_more count) else (if byte == 32 && nat_lt 2 count then Request else Other)
after Request byte = Request
after Other byte = Other

-- whether it is known to be a request
abbrev pub is_request : Beginning → Bool
is_request (Letters count) = false
is_request Request = true
is_request Other = false
