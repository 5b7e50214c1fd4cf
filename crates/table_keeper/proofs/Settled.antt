-- What is known of a stream's beginning stays.
use Rattle.std.proofs.Common.{◌≡◌, refl, ℕ, List, [], ◌∷◌}
use Rattle.std.specs.Prelude.{fold}
use Rattle.table_keeper.specs.Request.{after}
use Rattle.table_keeper.specs.declared.request.Beginning.TheVariants.{Request, Other}

pub request_stays : (bytes : List ℕ) → fold after Request bytes ≡ Request
request_stays [] = refl
request_stays (byte ∷ rest) = request_stays rest

pub other_stays : (bytes : List ℕ) → fold after Other bytes ≡ Other
other_stays [] = refl
other_stays (byte ∷ rest) = other_stays rest
