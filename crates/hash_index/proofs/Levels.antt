-- Chains that are added one at a time: which hashes lead elsewhere.
use Rattle.std.proofs.Common.{◌≡◌, ◌≢◌, ℕ, ◌+◌, ◌-◌, ◌*◌, ◌%◌, ◌<◌, ◌≤◌, refl, sym, ap, ◌∙◌, subst, arith, ⊎_elim}
use Rattle.std.specs.Prelude.{max}
use Rattle.std.proofs.lemmas.Bool.{cases_eq, cases_lt, cond_below, cond_above}
use Rattle.std.proofs.Math.Nat.{mod-mod_of_dvd, mod-eq-sub-mod, mod-eq_of_lt, dvd-mul_right}
use Rattle.hash_index.specs.declared.HashIndex.{HashIndex}
use Rattle.hash_index.specs.LinearHashing.{chain_of}
use Rattle.hash_index.specs.Spelled.{leads_to}

low : (level count hash : ℕ) → hash % (level * 2) < count → chain_of level count hash ≡ hash % (level * 2)
low level count hash lt = sym (cond_below (hash % (level * 2)) count (hash % (level * 2)) (hash % level) lt)

high : (level count hash : ℕ) → count ≤ hash % (level * 2) → chain_of level count hash ≡ hash % level
high level count hash le = sym (cond_above (hash % (level * 2)) count (hash % (level * 2)) (hash % level) (hash % level) le refl)

halved : (level hash : ℕ) → hash % (level * 2) % level ≡ hash % level
halved level hash = mod-mod_of_dvd level hash (dvd-mul_right level 2)

-- the remainder by half as many, where the one by all is not in the lower half
pub upper_half : (level hash : ℕ) → 0 < level → level ≤ hash % (level * 2) → hash % level ≡ hash % (level * 2) - level
upper_half level hash some le =
    let below : hash % (level * 2) < level * 2 = omega (arith, some) in
    sym (halved level hash) ∙ (mod-eq-sub-mod le ∙ mod-eq_of_lt (omega (arith, below, le)))

-- the number of a chain that is there leads to that chain
pub led : (level count hash : ℕ) → hash < count → count ≤ level * 2 → chain_of level count hash ≡ hash
led level count hash lt le =
    let same : hash % (level * 2) ≡ hash = mod-eq_of_lt (omega (arith, lt, le)) in
    low level count hash (omega (arith, same, lt)) ∙ same

-- a hash leads to a chain that there is
pub chain_within : (level count hash : ℕ) → 0 < level → level ≤ max 1 count → 0 < count → chain_of level count hash < count
chain_within level count hash some reached any =
    ⊎_elim
    (λ lt. subst (λ b. b < count) (sym (low level count hash lt)) lt)
    (λ le. let below : hash % level < level = omega (arith, some) in subst (λ b. b < count) (sym (high level count hash le)) (omega (arith, below, reached, any)))
    (cases_lt (hash % (level * 2)) count)

pub leads_within : (i : HashIndex) (hash : ℕ) → 0 < i.chains.len → leads_to i hash < i.chains.len
leads_within i hash any = chain_within i.level i.chains.len hash i.some_level i.reached any

-- where its chain is not there yet, a hash leads `level` before it
pub leads_upper : (i : HashIndex) (hash : ℕ) → 0 < i.chains.len → i.chains.len ≤ hash % (i.level * 2) → leads_to i hash ≡ hash % (i.level * 2) - i.level
leads_upper i hash any le = high i.level i.chains.len hash le ∙ upper_half i.level hash i.some_level (omega (arith, le, any, i.reached))

-- where all `level * 2` chains are there, twice the level leads each hash where it did
pub next_level : (level hash : ℕ) → 0 < level → chain_of (level * 2) (level * 2) hash ≡ chain_of level (level * 2) hash
next_level level hash some =
    let below : hash % (level * 2) < level * 2 = omega (arith, some) in
    ⊎_elim
    (λ lt. low (level * 2) (level * 2) hash lt ∙ (sym (mod-eq_of_lt lt) ∙ halved (level * 2) hash))
    (λ le. high (level * 2) (level * 2) hash le)
    (cases_lt (hash % (level * 2 * 2)) (level * 2))
    ∙ sym (low level (level * 2) hash below)

-- where one chain is added, the hashes of this remainder go there, and all others stay
pub goes : (level count hash : ℕ) → hash % (level * 2) ≡ count → chain_of level (count + 1) hash ≡ count
goes level count hash e = low level (count + 1) hash (omega (arith, e)) ∙ e

pub went : (level count hash : ℕ) → 0 < level → level ≤ count → hash % (level * 2) ≡ count → chain_of level count hash ≡ count - level
went level count hash some le e = high level count hash (omega (arith, e)) ∙ (upper_half level hash some (omega (arith, e, le)) ∙ ap (λ k. k - level) e)

pub stays : (level count hash : ℕ) → hash % (level * 2) ≢ count → chain_of level (count + 1) hash ≡ chain_of level count hash
stays level count hash ne =
    ⊎_elim
    (λ lt. low level (count + 1) hash (omega (arith, lt)) ∙ sym (low level count hash lt))
    (λ le. let more : count + 1 ≤ hash % (level * 2) = omega (arith, le, ne) in high level (count + 1) hash more ∙ sym (high level count hash le))
    (cases_lt (hash % (level * 2)) count)

-- a hash led where the number of the chain led that it leads to then
pub comes : (level count hash : ℕ) → 0 < level → level ≤ count → count < level * 2 → chain_of level count (chain_of level (count + 1) hash) ≡ chain_of level count hash
comes level count hash some le below =
    ⊎_elim
    (λ e. ap (λ k. chain_of level count k) (goes level count hash e) ∙ (went level count count some le (mod-eq_of_lt below) ∙ sym (went level count hash some le e)))
    (λ ne. ap (λ k. chain_of level count k) (stays level count hash ne) ∙ led level count (chain_of level count hash) (chain_within level count hash some (omega (arith, le)) (omega (arith, some, le))) (omega (arith, below)))
    (cases_eq (hash % (level * 2)) count)
