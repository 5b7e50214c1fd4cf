-- A chain whose links are turned round, node by node.
use Rattle.std.proofs.Common.{◌≡◌, ℕ, ◌+◌, List, [], ◌∷◌, ◌++◌, length, reverse, Option, Some, None, refl, sym, ap, ◌∙◌, subst, arith, append_assoc}
use Rattle.std.proofs.lemmas.List.{length-reverse, append-nil}
use Rattle.node_store.specs.declared.Node.{Node}
use Rattle.node_store.specs.declared.Link.{Link}
use Rattle.node_store.specs.Column.{Column, IsPut, IsNode}
use Rattle.node_store.specs.Nodes.{Lacks, IsDistinct, first_or, last_or}
use Rattle.node_store.proofs.NodeLists.{IsDistinct-parts, AreApart-head, IsSameAt-others, Lacks-append, last_or-append, reverse_cons, first_reversed}
use Rattle.seq_index.specs.declared.SeqIndex.{SeqIndex}
use Rattle.seq_index.specs.Links.{chain_link, Runs}
use Rattle.seq_index.specs.Spelled.{Spells}
use Rattle.seq_index.proofs.Runs.{Runs-same, Distinct-remove}

-- the nodes that were walked are linked the other way round, and the rest is as it was
pub record Turning (c : Column) (at : Option Node) (xs : List Node) (steps : ℕ) : Type 0 where
  pub turned : List Node
  pub rest : List Node
  pub whole : reverse rest ++ turned ≡ reverse xs
  pub count : length rest + steps ≡ length xs
  pub at_is : at ≡ first_or rest None
  pub turned_runs : Runs c at turned None
  pub rest_runs : Runs c (first_or turned None) rest None
  pub distinct : IsDistinct (turned ++ rest)

-- what a walk sees at its node
pub record Seen (c : Column) (turned rest : List Node) (n : Node) : Type 0 where
  pub tail : List Node
  pub is : rest ≡ n ∷ tail
  pub here : c n ≡ Some (chain_link (first_or turned None) (first_or tail None))

pub seen : (c : Column) (turned rest : List Node) (n : Node) → first_or rest None ≡ Some n → Runs c (first_or turned None) rest None → Seen c turned rest n
seen c turned [] n e h = cc
seen c turned (x ∷ rest) n e h =
    let s : x ≡ n = cc in
    record { tail = rest; is = ap (λ z. z ∷ rest) s; here = ap c (sym s) ∙ h.0 }

pub Turning_node : (c : Column) (at : Option Node) (xs : List Node) (steps : ℕ) (n : Node) → Turning c at xs steps → at ≡ Some n → IsNode c n
Turning_node c at xs steps n t e =
    let s = seen c t.turned t.rest n (sym t.at_is ∙ e) t.rest_runs in
    record { block = chain_link (first_or t.turned None) (first_or s.tail None); is = s.here }

turn_lists : (c d : Column) (n : Node) (turned tail : List Node) → Lacks turned n → Lacks tail n →
    IsPut c d n (chain_link (first_or tail None) (first_or turned None)) → Runs c (Some n) turned None → Runs c (Some n) tail None →
    Runs d (first_or tail None) (n ∷ turned) None × Runs d (Some n) tail None
turn_lists c d n turned tail lt lr put ht hr = (
  (put.at, Runs-same c d (Some n) turned None (IsSameAt-others c d n put.others turned lt) ht),
  Runs-same c d (Some n) tail None (IsSameAt-others c d n put.others tail lr) hr,
)

turn_step : (c d : Column) (xs : List Node) (steps : ℕ) (n : Node) (turned tail : List Node) →
    reverse (n ∷ tail) ++ turned ≡ reverse xs → length (n ∷ tail) + steps ≡ length xs → Runs c (Some n) turned None → Runs c (first_or turned None) (n ∷ tail) None → IsDistinct (turned ++ n ∷ tail) →
    IsPut c d n (chain_link (first_or tail None) (first_or turned None)) → Turning d (first_or tail None) xs (steps + 1)
turn_step c d xs steps n turned tail whole count ht hr dist put =
    let p = IsDistinct-parts turned (n ∷ tail) dist in
    let lacks = AreApart-head turned tail n p.apart in
    let both = turn_lists c d n turned tail lacks p.back.0 put ht hr.1 in
    record {
      turned = n ∷ turned;
      rest = tail;
      whole = sym (append_assoc (reverse tail) (n ∷ []) turned) ∙ ap (λ (z : List Node). z ++ turned) (sym (reverse_cons n tail)) ∙ whole;
      count = omega (arith, count);
      at_is = refl;
      turned_runs = both.0;
      rest_runs = both.1;
      distinct = (Lacks-append turned tail n lacks p.back.0, Distinct-remove turned n tail dist);
    }

pub Turning_step : (c d : Column) (at : Option Node) (xs : List Node) (steps : ℕ) (n : Node) (link : Link) → Turning c at xs steps → at ≡ Some n → c n ≡ Some link → IsPut c d n (chain_link link.b link.a) → Turning d link.b xs (steps + 1)
Turning_step c d at xs steps n link t e is put =
    let s = seen c t.turned t.rest n (sym t.at_is ∙ e) t.rest_runs in
    let l : link ≡ chain_link (first_or t.turned None) (first_or s.tail None) = cc (s.here, is) in
    let a : link.a ≡ first_or t.turned None = ap (λ (z : Link). z.a) l in
    let b : link.b ≡ first_or s.tail None = ap (λ (z : Link). z.b) l in
    let put2 : IsPut c d n (chain_link (first_or s.tail None) (first_or t.turned None)) = rw (a, b) at put in
    let done = turn_step c d xs steps n t.turned s.tail
    (subst (λ (z : List Node). reverse z ++ t.turned ≡ reverse xs) s.is t.whole)
    (subst (λ (z : List Node). length z + steps ≡ length xs) s.is t.count)
    (subst (λ (o : Option Node). Runs c o t.turned None) e t.turned_runs)
    (subst (λ (z : List Node). Runs c (first_or t.turned None) z None) s.is t.rest_runs)
    (subst (λ (z : List Node). IsDistinct (t.turned ++ z)) s.is t.distinct)
    put2 in
    subst (λ (o : Option Node). Turning d o xs (steps + 1)) (sym b) done

-- ---- the ends of a list turned round

last_reversed : (xs : List Node) → last_or (reverse xs) None ≡ first_or xs None
last_reversed [] = refl
last_reversed (x ∷ xs) = ap (λ (z : List Node). last_or z None) (reverse_cons x xs) ∙ last_or-append (reverse xs) (x ∷ []) None

pub Turning_done : (cs ds : ℕ → Column) (i j : SeqIndex) (at : Option Node) (xs : List Node) (steps : ℕ) → Spells cs i xs → Turning (ds j.col) at xs steps → steps ≡ i.len → j.first ≡ i.last → j.last ≡ i.first → j.len ≡ i.len → Spells ds j (reverse xs)
Turning_done cs ds i j at xs steps h t all first last len =
    let none : length t.rest ≡ 0 = omega (arith, t.count, h.len, all) in
    done t.turned t.rest none t.whole t.at_is t.turned_runs t.distinct
  where
    done : (turned rest : List Node) → length rest ≡ 0 → reverse rest ++ turned ≡ reverse xs → at ≡ first_or rest None → Runs (ds j.col) at turned None → IsDistinct (turned ++ rest) → Spells ds j (reverse xs)
    done turned (x ∷ rest) e whole at_is runs dist = absurd (omega (arith, e))
    done turned [] e whole at_is runs dist = record {
      runs = subst (λ (z : List Node). Runs (ds j.col) None z None) whole (subst (λ (o : Option Node). Runs (ds j.col) o turned None) at_is runs);
      first = first ∙ h.last ∙ sym (first_reversed xs);
      last = last ∙ h.first ∙ sym (last_reversed xs);
      distinct = subst IsDistinct whole (subst IsDistinct (append-nil turned) dist);
      len = len ∙ h.len ∙ sym (length-reverse xs);
      fits = omega (arith, h.fits, len);
    }
