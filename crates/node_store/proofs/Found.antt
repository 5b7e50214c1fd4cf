-- Values that are found by the numbers of their blocks.
use Rattle.std.proofs.Common.{◌≡◌, ◌≢◌, ℕ, suc, ◌+◌, cond, List, [], ◌∷◌, length, Some, None, IsSomeAnd, refl, sym, ap, ◌∙◌, subst, ⊎_elim, arith, eq-eqb, ne_eqb}
use Rattle.std.proofs.lemmas.Bool.{cases_eq}
use Rattle.std.proofs.lemmas.Option.{same_Some}
use Rattle.std.specs.Prelude.{map as each}
use denote.RawPtr.{Ptr, block_ptr, block_of as number_at, count_of, InBlock, at_block}
use Rattle.node_store.specs.declared.shelf.Block.{Block}
use Rattle.node_store.specs.Blocks.{Lying, lying, found_in, with_block, without_block, LiesAt, IsAt, LiesNowhere, LieApart, LieAtStarts, IsFree, HaveBlocks}
use Rattle.node_store.specs.Chain.{edit_block}

-- the start of a block
pub start_is : (p : Ptr) → InBlock p → count_of p ≡ 0 → p ≡ block_ptr (number_at p) 0
start_is p in_block start = at_block p in_block ∙ ap (block_ptr (number_at p)) start

module _ {T A : Type 0} where
  pub found_head : (k : ℕ) (e : Lying T A) (es : List (Lying T A)) → k ≡ (number_at e.at) → found_in k (e ∷ es) ≡ Some e
  found_head k e es p = ap (λ b. cond b (Some e) (found_in k es)) (eq-eqb k (number_at e.at) p)

  pub found_tail : (k : ℕ) (e : Lying T A) (es : List (Lying T A)) → k ≢ (number_at e.at) → found_in k (e ∷ es) ≡ found_in k es
  found_tail k e es n = ap (λ b. cond b (Some e) (found_in k es)) (ne_eqb k (number_at e.at) n)

  pub with_head : (k : ℕ) (x : T) (e : Lying T A) (es : List (Lying T A)) → k ≡ (number_at e.at) → with_block k x (e ∷ es) ≡ (lying e.at e.alloc x) ∷ es
  with_head k x e es p = ap (λ b. cond b ((lying e.at e.alloc x) ∷ es) (e ∷ with_block k x es)) (eq-eqb k (number_at e.at) p)

  pub with_tail : (k : ℕ) (x : T) (e : Lying T A) (es : List (Lying T A)) → k ≢ (number_at e.at) → with_block k x (e ∷ es) ≡ e ∷ with_block k x es
  with_tail k x e es n = ap (λ b. cond b ((lying e.at e.alloc x) ∷ es) (e ∷ with_block k x es)) (ne_eqb k (number_at e.at) n)

  pub without_head : (k : ℕ) (e : Lying T A) (es : List (Lying T A)) → k ≡ (number_at e.at) → without_block k (e ∷ es) ≡ es
  without_head k e es p = ap (λ b. cond b es (e ∷ without_block k es)) (eq-eqb k (number_at e.at) p)

  pub without_tail : (k : ℕ) (e : Lying T A) (es : List (Lying T A)) → k ≢ (number_at e.at) → without_block k (e ∷ es) ≡ e ∷ without_block k es
  without_tail k e es n = ap (λ b. cond b es (e ∷ without_block k es)) (ne_eqb k (number_at e.at) n)

  pub with_same : (n : ℕ) (x : T) (es : List (Lying T A)) (h : Lying T A) → found_in n es ≡ Some h → found_in n (with_block n x es) ≡ Some (lying h.at h.alloc x)
  with_same n x [] h p = absurd (cc)
  with_same n x (e ∷ es) h p =
      ⊎_elim
      (λ here. ap (found_in n) (with_head n x e es here) ∙ found_head n (lying e.at e.alloc x) es here
      ∙ ap (λ (k : Lying T A). Some (lying k.at k.alloc x)) (same_Some e h (sym (found_head n e es here) ∙ p)))
      (λ off. ap (found_in n) (with_tail n x e es off) ∙ found_tail n e _ off ∙ with_same n x es h (sym (found_tail n e es off) ∙ p))
      (cases_eq n (number_at e.at))

  pub with_other : (k n : ℕ) (x : T) (es : List (Lying T A)) → k ≢ n → found_in k (with_block n x es) ≡ found_in k es
  with_other k n x [] apart = refl
  with_other k n x (e ∷ es) apart =
      ⊎_elim
      (λ here. let away : k ≢ (number_at e.at) = λ q. apart (q ∙ sym here) in
      ap (found_in k) (with_head n x e es here) ∙ found_tail k (lying e.at e.alloc x) es away ∙ sym (found_tail k e es away))
      (λ off. ap (found_in k) (with_tail n x e es off) ∙
      ⊎_elim
      (λ same. found_head k e _ same ∙ sym (found_head k e es same))
      (λ away. found_tail k e _ away ∙ with_other k n x es apart ∙ sym (found_tail k e es away))
      (cases_eq k (number_at e.at)))
      (cases_eq n (number_at e.at))

  pub length-with : (n : ℕ) (x : T) (es : List (Lying T A)) → length (with_block n x es) ≡ length es
  length-with n x [] = refl
  length-with n x (e ∷ es) =
      ⊎_elim
      (λ here. ap length (with_head n x e es here))
      (λ off. ap length (with_tail n x e es off) ∙ ap suc (length-with n x es))
      (cases_eq n (number_at e.at))

  pub without_other : (k n : ℕ) (es : List (Lying T A)) → k ≢ n → found_in k (without_block n es) ≡ found_in k es
  without_other k n [] apart = refl
  without_other k n (e ∷ es) apart =
      ⊎_elim
      (λ here. ap (found_in k) (without_head n e es here) ∙ sym (found_tail k e es (λ q. apart (q ∙ sym here))))
      (λ off. ap (found_in k) (without_tail n e es off) ∙
      ⊎_elim
      (λ same. found_head k e _ same ∙ sym (found_head k e es same))
      (λ away. found_tail k e _ away ∙ without_other k n es apart ∙ sym (found_tail k e es away))
      (cases_eq k (number_at e.at)))
      (cases_eq n (number_at e.at))

  pub length-without : (n : ℕ) (es : List (Lying T A)) (h : Lying T A) → found_in n es ≡ Some h → length (without_block n es) + 1 ≡ length es
  length-without n [] h p = absurd (cc)
  length-without n (e ∷ es) h p =
      ⊎_elim
      (λ here. let k = ap length (without_head n e es here) in omega arith)
      (λ off. let k = ap length (without_tail n e es off) in let r = length-without n es h (sym (found_tail n e es off) ∙ p) in omega arith)
      (cases_eq n (number_at e.at))

  -- the same block, by the value that was read from it
  pub read_block : (es : List (Lying T A)) (n : ℕ) (h : Lying T A) (x : T) → found_in n es ≡ Some h → x ≡ h.value → found_in n es ≡ Some (lying h.at h.alloc x)
  read_block es n h x here same = here ∙ ap (λ (v : T). Some (lying h.at h.alloc v)) (sym same)

  pub lies_at : (es : List (Lying T A)) (p : Ptr) (h : Lying T A) → found_in (number_at p) es ≡ Some h → h.at ≡ p → LiesAt es p
  lies_at es p h here at = subst (λ o. IsSomeAnd o (λ (k : Lying T A). k.at ≡ p)) (sym here) at

  pub is_at : (es : List (Lying T A)) (p : Ptr) (a : A) (h : Lying T A) → found_in (number_at p) es ≡ Some h → h.at ≡ p → h.alloc ≡ a → IsAt es p a
  is_at es p a h here at by = subst (λ o. IsSomeAnd o (λ (k : Lying T A). (k.at ≡ p) × (k.alloc ≡ a))) (sym here) (at, by)

  -- ---- blocks of numbers of their own

  pub found_number : (n : ℕ) (es : List (Lying T A)) (h : Lying T A) → found_in n es ≡ Some h → number_at h.at ≡ n
  found_number n [] h p = absurd (cc)
  found_number n (e ∷ es) h p =
      ⊎_elim
      (λ here. ap (λ (m : Lying T A). number_at m.at) (sym (same_Some e h (sym (found_head n e es here) ∙ p))) ∙ sym here)
      (λ off. found_number n es h (sym (found_tail n e es off) ∙ p))
      (cases_eq n (number_at e.at))

  pub free_none : (n : ℕ) (es : List (Lying T A)) → IsFree es n → found_in n es ≡ None
  free_none n [] free = refl
  free_none n (e ∷ es) free = found_tail n e es free.0 ∙ free_none n es free.1

  pub without_same : (n : ℕ) (es : List (Lying T A)) → HaveBlocks es → found_in n (without_block n es) ≡ None
  without_same n [] apart = refl
  without_same n (e ∷ es) apart =
      ⊎_elim
      (λ here. ap (found_in n) (without_head n e es here) ∙ free_none n es (subst (IsFree es) (sym here) apart.0))
      (λ off. ap (found_in n) (without_tail n e es off) ∙ found_tail n e _ off ∙ without_same n es apart.1)
      (cases_eq n (number_at e.at))

  free_without : (k n : ℕ) (es : List (Lying T A)) → IsFree es k → IsFree (without_block n es) k
  free_without k n [] free = tt
  free_without k n (e ∷ es) free =
      ⊎_elim
      (λ here. subst (λ xs. IsFree xs k) (sym (without_head n e es here)) free.1)
      (λ off. subst (λ xs. IsFree xs k) (sym (without_tail n e es off)) (free.0, free_without k n es free.1))
      (cases_eq n (number_at e.at))

  pub HaveBlocks-without : (n : ℕ) (es : List (Lying T A)) → HaveBlocks es → HaveBlocks (without_block n es)
  HaveBlocks-without n [] apart = tt
  HaveBlocks-without n (e ∷ es) apart =
      ⊎_elim
      (λ here. subst HaveBlocks (sym (without_head n e es here)) apart.1)
      (λ off. subst HaveBlocks (sym (without_tail n e es off)) (free_without (number_at e.at) n es apart.0, HaveBlocks-without n es apart.1))
      (cases_eq n (number_at e.at))

  -- the blocks with other values lie where they lay
  abbrev pub places : List (Lying T A) → List Ptr
  places = each (λ e. e.at)

  pub places-with : (n : ℕ) (x : T) (es : List (Lying T A)) → places (with_block n x es) ≡ places es
  places-with n x [] = refl
  places-with n x (e ∷ es) =
      ⊎_elim
      (λ here. ap places (with_head n x e es here))
      (λ off. ap places (with_tail n x e es off) ∙ ap (λ ps. e.at ∷ ps) (places-with n x es))
      (cases_eq n (number_at e.at))

  free_placed : (k : ℕ) (es xs : List (Lying T A)) → places xs ≡ places es → IsFree es k → IsFree xs k
  free_placed k [] [] same free = tt
  free_placed k [] (x ∷ xs) same free = absurd (cc)
  free_placed k (e ∷ es) [] same free = absurd (cc)
  free_placed k (e ∷ es) (x ∷ xs) same free = (λ q. free.0 (q ∙ ap (λ ps. number_at (first_of ps)) same), free_placed k es xs (ap rest_of same) free.1)
    where
      first_of : List Ptr → Ptr
      first_of [] = e.at
      first_of (p ∷ ps) = p

      rest_of : List Ptr → List Ptr
      rest_of [] = []
      rest_of (p ∷ ps) = ps

  -- so their numbers are their own still
  pub HaveBlocks-placed : (es xs : List (Lying T A)) → places xs ≡ places es → HaveBlocks es → HaveBlocks xs
  HaveBlocks-placed [] [] same apart = tt
  HaveBlocks-placed [] (x ∷ xs) same apart = absurd (cc)
  HaveBlocks-placed (e ∷ es) [] same apart = absurd (cc)
  HaveBlocks-placed (e ∷ es) (x ∷ xs) same apart =
      (free_placed (number_at x.at) es xs (ap rest_of same) (subst (IsFree es) (sym (ap (λ ps. number_at (first_of ps)) same)) apart.0), HaveBlocks-placed es xs (ap rest_of same) apart.1)
    where
      first_of : List Ptr → Ptr
      first_of [] = e.at
      first_of (p ∷ ps) = p

      rest_of : List Ptr → List Ptr
      rest_of [] = []
      rest_of (p ∷ ps) = ps

  -- ---- starts of blocks that lie apart are of several blocks

  free_from : (p : Ptr) (es : List (Lying T A)) → InBlock p → count_of p ≡ 0 → LiesNowhere es p → LieAtStarts es → IsFree es (number_at p)
  free_from p [] in_block start apart starts = tt
  free_from p (e ∷ es) in_block start apart starts =
      (λ q. apart.0 (start_is p in_block start ∙ ap (λ b. block_ptr b 0) q ∙ sym (start_is e.at starts.0 starts.1)), free_from p es in_block start apart.1 starts.2)

  pub HaveBlocks-apart : (es : List (Lying T A)) → LieApart es → LieAtStarts es → HaveBlocks es
  HaveBlocks-apart [] apart starts = tt
  HaveBlocks-apart (e ∷ es) apart starts = (free_from e.at es starts.0 starts.1 apart.0 starts.2, HaveBlocks-apart es apart.1 starts.2)

-- ---- edits of one block

module _ {R L A : Type 0} where
  pub edit_head : (n : ℕ) (f : Block R L → Block R L) (e : Lying (Block R L) A) (es : List (Lying (Block R L) A)) → n ≡ (number_at e.at) → edit_block n f (e ∷ es) ≡ (lying e.at e.alloc (f e.value)) ∷ es
  edit_head n f e es p = ap (λ b. cond b ((lying e.at e.alloc (f e.value)) ∷ es) (e ∷ edit_block n f es)) (eq-eqb n (number_at e.at) p)

  pub edit_tail : (n : ℕ) (f : Block R L → Block R L) (e : Lying (Block R L) A) (es : List (Lying (Block R L) A)) → n ≢ (number_at e.at) → edit_block n f (e ∷ es) ≡ e ∷ edit_block n f es
  edit_tail n f e es p = ap (λ b. cond b ((lying e.at e.alloc (f e.value)) ∷ es) (e ∷ edit_block n f es)) (ne_eqb n (number_at e.at) p)

  pub with_edit : (n : ℕ) (f : Block R L → Block R L) (es : List (Lying (Block R L) A)) (h : Lying (Block R L) A) → found_in n es ≡ Some h → with_block n (f h.value) es ≡ edit_block n f es
  with_edit n f [] h p = refl
  with_edit n f (e ∷ es) h p =
      ⊎_elim
      (λ here. let same : h ≡ e = same_Some h e (sym p ∙ found_head n e es here) in
      with_head n (f h.value) e es here ∙ ap (λ (k : Lying (Block R L) A). (lying e.at e.alloc (f k.value)) ∷ es) same ∙ sym (edit_head n f e es here))
      (λ off. with_tail n (f h.value) e es off ∙ ap (λ xs. e ∷ xs) (with_edit n f es h (sym (found_tail n e es off) ∙ p)) ∙ sym (edit_tail n f e es off))
      (cases_eq n (number_at e.at))
