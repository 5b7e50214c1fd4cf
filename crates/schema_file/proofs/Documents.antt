-- What document bytes are, by what `toml` reads of them.
use Rattle.std.proofs.Common.{◌≡◌, ℕ, List, Bool, true, false, cond, Some, None, refl}
use Rattle.std.proofs.lemmas.Str.{IsUtf8-from_is_utf8, is_utf8-from_IsUtf8}
use Rattle.std.specs.Str.{IsUtf8, is_utf8}
use Rattle.toml.specs.Data.{Members}
use Rattle.toml.specs.Parse.{parse_document}
use Rattle.schema_file.specs.Meaning.{document_of}

no_document_at : (b : Bool) (bytes : List ℕ) → is_utf8 bytes ≡ b → (IsUtf8 bytes → parse_document bytes ≡ None) → None ≡ cond b (parse_document bytes) None
no_document_at true bytes e h = rw (h (IsUtf8-from_is_utf8 bytes e)) refl
no_document_at false bytes e h = refl

pub no_document : (bytes : List ℕ) → (IsUtf8 bytes → parse_document bytes ≡ None) → None ≡ document_of bytes
no_document bytes h = no_document_at (is_utf8 bytes) bytes refl h

pub document : (bytes : List ℕ) (ms : Members) → IsUtf8 bytes → parse_document bytes ≡ Some ms → Some ms ≡ document_of bytes
document bytes ms h e = rw (is_utf8-from_IsUtf8 bytes h, e) refl
