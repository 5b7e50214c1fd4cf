use Rattle.std.proofs.Common.{◌≡◌, ℕ, List, Some, length, take, ap, ◌∙◌, arith, take_all}
use Rattle.checked_log.specs.Digest.{digest}
use Rattle.table_folder.proofs.Fronts.{if_ok}
use Rattle.table_folder.proofs.digesting.digest_of_disk.Goals as goal

pub returns-clause-digest : goal.returns-clause-digest
returns-clause-digest g c =
    let contents = g.D.Disk.contents c.args.disk.now in
    if_ok c.digest_of_front.result (λ found. (bytes : List ℕ) → contents ≡ Some bytes → found ≡ digest (take c.size-end.result bytes)) (λ found. (bytes : List ℕ) → contents ≡ Some bytes → found ≡ digest bytes)
    (λ found says bytes is.
    let size : c.size-end.result ≡ length bytes = c.size-end.ensures ∙ g.met.D.Disk.counted c.args.disk.now bytes is in
    says bytes is ∙ ap digest (take_all c.size-end.result bytes (omega arith)))
    c.digest_of_front.ensures.digest
