-- A chain of one node or none is parted without a write.
use Rattle.std.proofs.Common.{◌≡◌, ℕ, Bool, true, false, cond, not, ◌<◌, [], ◌∷◌, Option, Some, None, refl, sym, ap, ◌∙◌, subst, arith}
use Rattle.std.specs.Prelude.{nat_lt}
use Rattle.std.specs.List.{slice_get}
use Rattle.std.proofs.lemmas.Bool.{ltb-true}
use Rattle.node_store.specs.declared.Node.{Node}
use Rattle.node_store.specs.declared.Link.{Link}
use Rattle.node_store.specs.Column.{Column, IsNode}
use Rattle.seq_index.specs.Links.{Runs}
use Rattle.hash_index.specs.declared.HashIndex.{HashIndex}
use Rattle.hash_index.specs.declared.head.Head.{Head}
use Rattle.hash_index.specs.Heads.{first_in, alone_in, is_empty, IsRight}
use Rattle.hash_index.specs.Chains.{untagged}
use Rattle.hash_index.specs.Rising.{IsRising}
use Rattle.hash_index.specs.Spelled.{all_of, heads_of, IsSound}
use Rattle.hash_index.specs.Split.{goes, left, taken}
use Rattle.hash_index.specs.Walks.{rest_of}
use Rattle.hash_index.specs.Parts.{Stands, IsPart, IsParted}
use Rattle.hash_index.proofs.Heads.{right_none, right_at, slice_first}
use Rattle.hash_index.proofs.Spelling.{head_ends, head_runs}
use Rattle.hash_index.proofs.Matching.{rest_none, walk_step, walk_node}

-- each chain of a sound index stands
pub stands_at : {ages : Node → ℕ} (cs : ℕ → Column) (i : HashIndex) (b : ℕ) (head : Head) → b < i.chains.len → slice_get (all_of i) b ≡ Some head → IsSound ages cs i → Stands ages cs i head
stands_at {ages} cs i b head within at h =
    let first = slice_first (heads_of i) (all_of i) b refl head at in
    let walk = head_ends cs i b (first_in head) within first h in
    let line = head_runs cs i b (first_in head) within first h in
    record { ends = walk.0; distinct = walk.1; runs = line.0; rising = line.1; right = right_at (cs i.col) (all_of i) b head h.right at }

no_first : (c : Column) (h : Head) (first : Option Node) → first_in h ≡ first → ((n : Node) → first ≡ Some n → IsNode c n) → IsRight c h → h.mark < 64 → first_in h ≡ None
no_first c h None e nodes right few = e
no_first c h (Some n) e nodes right few =
    let l = nodes n refl in
    let says = right (omega (arith, few)) n l.block e l.is in
    absurd (omega (arith, few, says.1))

alone_by : (few : Bool) (mark : ℕ) (first : Option Node) (n : Node) → nat_lt mark 128 ≡ few → cond few first None ≡ Some n → (mark < 128) × (first ≡ Some n)
alone_by true mark first n is e = (ltb-true mark 128 is, e)
alone_by false mark first n is e = cc

-- a node that is alone is the first
pub alone_is : (h : Head) (n : Node) → alone_in h ≡ Some n → (h.mark < 128) × (first_in h ≡ Some n)
alone_is h n e = alone_by (nat_lt h.mark 128) h.mark (first_in h) n refl e

none_part : {ages : Node → ℕ} (c : Column) (longer none : Head) → first_in none ≡ None → none.mark ≡ 0 → IsPart ages c longer none []
none_part c longer none first mark = record { first = first; runs = tt; rising = λ m e. cc; right = right_none c none first; oldest = λ big. absurd (omega (arith, big, mark)); same = λ big. absurd (omega (arith, big, mark)) }

module _ {ages : Node → ℕ} (cs : ℕ → Column) (i : HashIndex) (head none : Head) (stands : Stands ages cs i head) (first : first_in none ≡ None) (mark : none.mark ≡ 0) where
  abbrev c : Column
  c = cs i.col

  -- one of no nodes keeps none, and gives none away
  pub empty_parted : is_empty head.mark ≡ true → IsParted ages cs cs i head head none
  empty_parted empty =
      let few = ltb-true head.mark 64 empty in
      let begin = no_first c head (first_in head) refl (λ n. walk_node cs i (first_in head) n stands.ends) stands.right few in
      let all : rest_of cs i (first_in head) ≡ [] = ap (λ o. rest_of cs i o) begin ∙ rest_none cs i in
      record {
        stays = subst (λ z. IsPart ages c head head (left c i z)) (sym all) (record { first = begin; runs = tt; rising = λ m e. cc; right = stands.right; oldest = λ says. says; same = λ says. refl });
        moves = subst (λ z. IsPart ages c head none (taken c i z)) (sym all) (none_part c head none first mark);
        tags = λ n. refl;
        kept = λ n lacks. refl;
      }

  module _ (n : Node) (link : Link) (is : c n ≡ Some link) (few : head.mark < 128) (begin : first_in head ≡ Some n) where
    all_is : rest_of cs i (first_in head) ≡ n ∷ []
    all_is =
        let step = walk_step cs i (first_in head) n link stands.ends begin is in
        let last : link.b ≡ None = (stands.right few n link begin is).0 in
        step.rest ∙ ap (λ zs. n ∷ zs) (ap (λ o. rest_of cs i o) last ∙ rest_none cs i)

    one_part : IsPart ages c head head (n ∷ [])
    one_part = record {
      first = begin;
      runs = subst (λ z. Runs (untagged c) None z None) all_is stands.runs;
      rising = subst (IsRising ages c) all_is stands.rising;
      right = stands.right;
      oldest = λ says. says;
      same = λ says. refl;
    }

    -- one whose node goes keeps none
    pub one_goes : goes c i n ≡ true → IsParted ages cs cs i head none head
    one_goes e = record {
      stays = subst (λ z. IsPart ages c head none (left c i z)) (sym all_is) (subst (λ b. IsPart ages c head none (cond (not b) (n ∷ []) [])) (sym e) (none_part c head none first mark));
      moves = subst (λ z. IsPart ages c head head (taken c i z)) (sym all_is) (subst (λ b. IsPart ages c head head (cond b (n ∷ []) [])) (sym e) one_part);
      tags = λ m. refl;
      kept = λ m lacks. refl;
    }

    -- one whose node stays gives none away
    pub one_stays : goes c i n ≡ false → IsParted ages cs cs i head head none
    one_stays e = record {
      stays = subst (λ z. IsPart ages c head head (left c i z)) (sym all_is) (subst (λ b. IsPart ages c head head (cond (not b) (n ∷ []) [])) (sym e) one_part);
      moves = subst (λ z. IsPart ages c head none (taken c i z)) (sym all_is) (subst (λ b. IsPart ages c head none (cond b (n ∷ []) [])) (sym e) (none_part c head none first mark));
      tags = λ m. refl;
      kept = λ m lacks. refl;
    }
