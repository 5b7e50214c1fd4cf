-- Reading a text token by token: what a turn of each loop finds.
use Rattle.std.proofs.Common.{◌≡◌, ℕ, zero, suc, ◌-◌, ◌<◌, ◌≤◌, List, [], ◌∷◌, ◌++◌, length, Option, Some, None, option_map, option_and_then, refl, sym, ap, ◌∙◌, arith, rules}
use Rattle.std.specs.Prelude.{IfSome}
use Rattle.json.specs.Token.{Token}
use Rattle.json.specs.Json as json
use Rattle.json.specs.Json.{Parse, parse_map, after_end_array, read_key, items_step, members_step, items, members}
use Rattle.json.proofs.Grammar.{items_end, members_end, members_no_key}
use Rattle.serde_json.specs.Data.{Data, number, Items, no_items, item, Members, put}
use Rattle.serde_json.specs.Read.{of_json, of_items, of_members, converted}
use Rattle.serde_json.specs.View.{view, items_view, number_view}
use Rattle.serde_json.specs.declared.number.Number.{Number}
use Rattle.serde_json.specs.declared.value.Value.{Value, the_lemmas}
use Rattle.serde_json.specs.declared.value.Value as values
use Rattle.command_lines.specs.Tree.{Reads}

-- ---- a reading and what it finds

held : {A : Type 0} → A → Option A → A
held a None = a
held a (Some b) = b

-- two that end alike found alike
alike : {A V : Type 0} (look : V → A) (r s : List Token) (x : Option A) (found : Option V) → option_map {U = A × List Token} (λ a. (a, r)) x ≡ option_map (λ v. (look v, s)) found
    → (x ≡ option_map look found) × IfSome found (λ v. r ≡ s)
unfolding held
alike look r s None None e = (refl, tt)
alike look r s None (Some v) e = absurd (cc)
alike look r s (Some a) None e = absurd (cc)
alike look r s (Some a) (Some v) e = let same = ap (held (a, r)) e in (ap (λ p. Some p.0) same, ap (λ p. p.1) same)

spread : {A B C : Type 0} (g : A → Option B) (h : B → C) (x : Option A) → option_map h (option_and_then g x) ≡ option_and_then (λ a. option_map h (g a)) x
spread g h None = refl
spread g h (Some a) = refl

under : {A B : Type 0} (f : A → B) (r : List Token) (x : Option A) → option_map (λ b. (b, r)) (option_map f x) ≡ parse_map f (option_map (λ a. (a, r)) x)
under f r None = refl
under f r (Some a) = refl

module _ {A B V : Type 0} (meant : A → Option B) (look : V → B) (form : A → json.Json) (shape : B → Data) (make : V → Value) where
  shaped : ((a : A) → of_json (form a) ≡ option_map shape (meant a)) → (o : Option (A × List Token)) → converted of_json (parse_map form o) ≡ parse_map shape (converted meant o)
  shaped means None = refl
  shaped means (Some p) = ap (option_map (λ b. (b, p.1))) (means p.0) ∙ under shape p.1 (meant p.0)

  made : ((v : V) → view (make v) ≡ shape (look v)) → (rest : List Token) (found : Option V)
      → parse_map shape (option_map (λ v. (look v, rest)) found) ≡ option_map (λ v. (view v, rest)) (option_map make found)
  made shows rest None = refl
  made shows rest (Some v) = ap (λ d. Some (d, rest)) (sym (shows v))

  -- what opens, and what is read between its ends
  pub opened : ((a : A) → of_json (form a) ≡ option_map shape (meant a)) → ((v : V) → view (make v) ≡ shape (look v))
      → (o : Option (A × List Token)) (found : Option V) (rest : List Token) → Reads meant look o found rest → Reads of_json view (parse_map form o) (option_map make found) rest
  opened means shows o found rest e = shaped means o ∙ ap (parse_map shape) e ∙ made shows rest found

pub numbered : (found : Option Number) (rest : List Token)
    → option_map {U = Data × List Token} (λ d. (d, rest)) (option_map number (option_map number_view found)) ≡ option_map (λ v. (view v, rest)) (option_map values.Number found)
numbered None rest = refl
numbered (Some n) rest = let seen : view (values.Number n) ≡ number (number_view n) = search (rules, the_lemmas) in ap (λ d. Some (d, rest)) (sym seen)

-- ---- a turn of a loop: a value, and what follows it

nothing : {A B : Type 0} (x : Option A) → None ≡ option_and_then {U = B} (λ a. None) x
nothing None = refl
nothing (Some a) = refl

module _ {A B : Type 0} (form : json.Json → A → A) (meant : A → Option B) (next : Data → A → Option B) (means : (j : json.Json) (a : A) → meant (form j a) ≡ option_and_then (λ d. next d a) (of_json j)) where
  then_next : (j : json.Json) (o : Option (A × List Token)) → converted meant (parse_map (form j) o) ≡ option_and_then (λ d. converted (next d) o) (of_json j)
  then_next j None = nothing (of_json j)
  then_next j (Some p) = ap (option_map (λ b. (b, p.1))) (means j p.0) ∙ spread (λ d. next d p.0) (λ b. (b, p.1)) (of_json j)

  after_it : (more : Parse A) (r s : List Token) (found : Option Value) → IfSome found (λ v. r ≡ s)
      → option_and_then (λ d. converted (next d) (more r)) (option_map view found) ≡ option_and_then (λ v. converted (next (view v)) (more s)) found
  after_it more r s None same = refl
  after_it more r s (Some v) same = ap (λ ts. converted (next (view v)) (more ts)) same

  turn : (more : Parse A) (o : Option (json.Json × List Token)) (found : Option Value) (rest : List Token) → Reads of_json view o found rest
      → converted meant (option_and_then (λ q. parse_map (form q.0) (more q.1)) o) ≡ option_and_then (λ v. converted (next (view v)) (more rest)) found
  turn more None None rest e = refl
  turn more None (Some v) rest e = absurd (cc)
  turn more (Some q) found rest e =
      let same = alike view q.1 rest (of_json q.0) found e in
      then_next q.0 (more q.1) ∙ ap (option_and_then (λ d. converted (next d) (more q.1))) same.0 ∙ after_it more q.1 rest found same.1

-- ---- the items of an array

-- values, and these items behind them
abbrev behind : List Value → Items → Items
behind [] ds = ds
behind (v ∷ vs) ds = item (view v) (behind vs ds)

behind-none : (vs : List Value) → behind vs no_items ≡ items_view vs
behind-none [] = refl
behind-none (v ∷ vs) = ap (item (view v)) (behind-none vs)

behind-one : (vs : List Value) (v : Value) (ds : Items) → behind vs (item (view v) ds) ≡ behind (vs ++ v ∷ []) ds
behind-one [] v ds = refl
behind-one (w ∷ vs) v ds = ap (item (view w)) (behind-one vs v ds)

behind-no : (x : Option Items) → x ≡ option_map (behind []) x
behind-no None = refl
behind-no (Some ds) = refl

-- what items mean behind the values that were read before
abbrev pub with_items : List Value → json.Items → Option Items
with_items vs js = option_map (behind vs) (of_items js)

pub items_begun : (o : Option (json.Items × List Token)) → converted of_items o ≡ converted (with_items []) o
items_begun None = refl
items_begun (Some p) = ap (option_map (λ b. (b, p.1))) (behind-no (of_items p.0))

module _ (vs : List Value) where
  abbrev with_next : Data → json.Items → Option Items
  with_next d js = option_map (behind vs) (option_map (item d) (of_items js))

  pushed : (v : Value) (x : Option Items) → option_map (behind vs) (option_map (item (view v)) x) ≡ option_map (behind (vs ++ v ∷ [])) x
  pushed v None = refl
  pushed v (Some ds) = ap Some (behind-one vs v ds)

  pushed_read : (v : Value) (o : Option (json.Items × List Token)) → converted (with_next (view v)) o ≡ converted (with_items (vs ++ v ∷ [])) o
  pushed_read v None = refl
  pushed_read v (Some p) = ap (option_map (λ b. (b, p.1))) (pushed v (of_items p.0))

  module _ (p : Parse json.Json) (n : ℕ) (ts rest : List Token) where
    item_next : (found : Option Value) → after_end_array ts ≡ None → Reads of_json view (p ts) found rest
        → converted (with_items vs) (items p (suc n) ts) ≡ option_and_then (λ v. converted (with_next (view v)) (items p n rest)) found
    unfolding items
    item_next found going e =
        ap (λ o. converted (with_items vs) (items_step p (items p n) ts o)) going
        ∙ turn json.item (with_items vs) with_next (λ j js. spread (λ d. option_map (item d) (of_items js)) (behind vs) (of_json j)) (items p n) (p ts) found rest e

module _ (vs : List Value) (p : Parse json.Json) where
  pub items_turn : (n : ℕ) (ts rest : List Token) (v : Value) → 0 < n → after_end_array ts ≡ None → Reads of_json view (p ts) (Some v) rest
      → converted (with_items vs) (items p n ts) ≡ converted (with_items (vs ++ v ∷ [])) (items p (n - 1) rest)
  items_turn zero ts rest v some going e = let never : ⊥ = omega arith in absurd never
  items_turn (suc n) ts rest v some going e =
      let less : n ≡ suc n - 1 = omega arith in
      item_next vs p n ts rest (Some v) going e ∙ pushed_read vs v (items p n rest) ∙ ap (λ k. converted (with_items (vs ++ v ∷ [])) (items p k rest)) less

  pub items_refused : (n : ℕ) (ts rest : List Token) → after_end_array ts ≡ None → Reads {V = Value} of_json view (p ts) None rest → converted (with_items vs) (items p n ts) ≡ None
  unfolding items
  items_refused zero ts rest going e = refl
  items_refused (suc n) ts rest going e = item_next vs p n ts rest None going e

  pub items_done : (n : ℕ) (ts rest : List Token) → length ts ≤ n → after_end_array ts ≡ Some rest → converted (with_items vs) (items p n ts) ≡ Some (items_view vs, rest)
  items_done n ts rest enough e = ap (converted (with_items vs)) (items_end p n ts rest enough e) ∙ ap (λ ds. Some (ds, rest)) (behind-none vs)

-- ---- the members of an object

-- what members mean beside those that were read before
abbrev pub with_members : Members → json.Members → Option Members
with_members old ms = of_members ms old

module _ (old : Members) (p : Parse json.Json) where
  member_next : (n : ℕ) (k : List ℕ) (ts s rest : List Token) (found : Option Value) → read_key ts ≡ Some (Some k, s) → Reads of_json view (p s) found rest
      → converted (with_members old) (members p (suc n) ts) ≡ option_and_then (λ v. converted (with_members (put k (view v) old)) (members p n rest)) found
  unfolding members
  member_next n k ts s rest found key e =
      ap (λ o. converted (with_members old) (option_and_then (λ q. members_step p (members p n) q.0 q.1) o)) key
      ∙ turn (json.member k) (with_members old) (λ d. with_members (put k d old)) (λ j ms. refl) (members p n) (p s) found rest e

  pub members_turn : (n : ℕ) (k : List ℕ) (ts s rest : List Token) (v : Value) → 0 < n → read_key ts ≡ Some (Some k, s) → Reads of_json view (p s) (Some v) rest
      → converted (with_members old) (members p n ts) ≡ converted (with_members (put k (view v) old)) (members p (n - 1) rest)
  members_turn zero k ts s rest v some key e = let never : ⊥ = omega arith in absurd never
  members_turn (suc n) k ts s rest v some key e =
      let less : n ≡ suc n - 1 = omega arith in
      member_next n k ts s rest (Some v) key e ∙ ap (λ m. converted (with_members (put k (view v) old)) (members p m rest)) less

  pub members_refused : (n : ℕ) (k : List ℕ) (ts s rest : List Token) → read_key ts ≡ Some (Some k, s) → Reads {V = Value} of_json view (p s) None rest
      → converted (with_members old) (members p n ts) ≡ None
  unfolding members
  members_refused zero k ts s rest key e = refl
  members_refused (suc n) k ts s rest key e = member_next n k ts s rest None key e

  pub members_unnamed : (n : ℕ) (ts : List Token) → read_key ts ≡ None → converted (with_members old) (members p n ts) ≡ None
  members_unnamed n ts e = ap (converted (with_members old)) (members_no_key p n ts e)

  pub members_done : (n : ℕ) (ts rest : List Token) → length ts ≤ n → read_key ts ≡ Some (None, rest) → converted (with_members old) (members p n ts) ≡ Some (old, rest)
  members_done n ts rest enough e = ap (converted (with_members old)) (members_end p n ts rest enough e)
