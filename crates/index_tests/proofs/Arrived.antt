-- The nodes of a set once records came, or one changed.
use Rattle.std.proofs.Common.{◌≡◌, ◌≢◌, [], ◌∷◌, sym, ap, ◌∙◌, inl, inr, ⊎_elim}
use Rattle.std.specs.Prelude.{◌⊎◌}
use Rattle.std.specs.List.{AllByRecursion}
use Rattle.std.proofs.lemmas.Option.{same_Some}
use Rattle.node_store.specs.declared.Node.{Node}
use Rattle.node_store.specs.Nodes.{Holds, IsDistinct}
use Rattle.node_store.specs.Store.{Store, IsNodeOf, nodes, number_of, with_record}
use Rattle.node_store.specs.ByNode.{contents}
use Rattle.node_store.proofs.ByNode.{node_cases, IsNodeOf_kept, IsNodeOf_added, new_node, others_added}
use Rattle.index_set.specs.Writes.{AddsRecord}
use Rattle.index_set.proofs.Written.{node_written}

module _ {R : Type 0} {old new : Store R} {n : Node} {value : R} (came : AddsRecord old new n value) where
  pub node_put : IsNodeOf new n
  node_put = IsNodeOf_kept came.after new n came.is (IsNodeOf_added came.before came.after n value came.adds)

  others_put : (m : Node) → IsNodeOf old m → IsNodeOf new m
  others_put m was = IsNodeOf_kept came.after new m came.is (others_added came.before came.after n value came.adds m (IsNodeOf_kept old came.before m came.was was))

  apart_put : (m : Node) → IsNodeOf old m → m ≢ n
  apart_put m was = new_node came.before came.after n value came.adds m (IsNodeOf_kept old came.before m came.was was)

  -- each is the one that came, or was there
  no_more_put : (m : Node) → IsNodeOf new m → (m ≡ n) ⊎ IsNodeOf old m
  no_more_put m is = ⊎_elim (λ (e : m ≡ n). inl e) (λ (ne : m ≢ n). inr (before ne)) (node_cases m n)
    where
      here : IsNodeOf came.after m
      here = IsNodeOf_kept new came.after m (sym came.is) is

      numbers : m ≢ n → number_of m ≢ number_of n
      numbers ne e = ne (same_Some m n (sym here ∙ (ap (nodes came.after) e ∙ IsNodeOf_added came.before came.after n value came.adds)))

      before : m ≢ n → IsNodeOf old m
      before ne = IsNodeOf_kept came.before old m (sym came.was) (sym (came.adds.nodes.others (number_of m) (numbers ne)) ∙ here)

-- three records came into a store without nodes
module _ {R : Type 0} {s t u v : Store R} {a b c : Node} {x y z : R} (none : (n : Node) → ¬ IsNodeOf s n) (first : AddsRecord s t a x) (second : AddsRecord t u b y) (third : AddsRecord u v c z) where
  a_then : IsNodeOf u a
  a_then = others_put second a (node_put first)

  pub members_put : AllByRecursion (IsNodeOf v) (a ∷ b ∷ c ∷ [])
  members_put = (others_put third a a_then, (others_put third b (node_put second), (node_put third, tt)))

  pub distinct_put : IsDistinct (a ∷ b ∷ c ∷ [])
  distinct_put = ((apart_put second a (node_put first), (apart_put third a a_then, tt)), ((apart_put third b (node_put second), tt), (tt, tt)))

  pub all_put : (n : Node) → IsNodeOf v n → Holds (a ∷ b ∷ c ∷ []) n
  all_put n is =
      ⊎_elim (λ (e : n ≡ c). record { before = a ∷ b ∷ []; after = []; is = ap (λ m. a ∷ b ∷ m ∷ []) (sym e) })
      (λ in_u. ⊎_elim (λ (e : n ≡ b). record { before = a ∷ []; after = c ∷ []; is = ap (λ m. a ∷ m ∷ c ∷ []) (sym e) })
      (λ in_t. ⊎_elim (λ (e : n ≡ a). record { before = []; after = b ∷ c ∷ []; is = ap (λ m. m ∷ b ∷ c ∷ []) (sym e) }) (λ in_s. absurd (none n in_s)) (no_more_put first n in_t))
      (no_more_put second n in_u))
      (no_more_put third n is)

-- a record was written over a node's
pub node_rewritten : {R : Type 0} (old new : Store R) (n : Node) (value : R) → contents new ≡ contents (with_record old n value) → IsNodeOf old n → IsNodeOf new n
node_rewritten old new n value written is = IsNodeOf_kept (with_record old n value) new n written (node_written old n value is)
