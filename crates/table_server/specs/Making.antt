-- What is known of what makes files.
use Rattle.std.specs.Prelude.{ℕ, List, ⊤}

-- Of what makes files, F, before a call and after it. A path was tried, beside the path of a file that is read, with what was begun for it, B; or it was refused.
-- A file M was made of what had been begun for a path; or that was refused. It was put at its path; or that was refused. It was let go, for a write to it had failed.
pub record Making (F B M : Type 0) : Type 1 where
  pub begun : F → List ℕ → List ℕ → F → B → Type 0
  pub not_begun : F → List ℕ → List ℕ → F → Type 0
  pub made : F → List ℕ → B → F → M → Type 0
  pub not_made : F → List ℕ → B → F → Type 0
  pub put : F → List ℕ → M → F → Type 0
  pub not_put : F → List ℕ → M → F → Type 0
  pub left : F → List ℕ → M → F → Type 0

-- nothing is known
abbrev pub unknown : {F B M : Type 0} → Making F B M
unknown = record {
  begun = λ _ _ _ _ _. ⊤;
  not_begun = λ _ _ _ _. ⊤;
  made = λ _ _ _ _ _. ⊤;
  not_made = λ _ _ _ _. ⊤;
  put = λ _ _ _ _. ⊤;
  not_put = λ _ _ _ _. ⊤;
  left = λ _ _ _ _. ⊤;
}
