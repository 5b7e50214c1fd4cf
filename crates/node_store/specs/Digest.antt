-- What number a digest stands for.
use Rattle.std.specs.Prelude.{ℕ, ◌+◌, ◌*◌, ◌^◌}
use Rattle.node_store.specs.declared.digest.Digest.{Digest}

-- the two parts beside one another
abbrev pub digest_number : Digest → ℕ
digest_number d = d.high * 2 ^ 16 + d.low

-- the digest of a link that is not in a tree
abbrev pub no_digest : Digest
no_digest = record { high = 0; low = 0 }
