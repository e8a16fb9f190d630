-- What demand 2 says of a refusal: an entry's rows of 'Numbers the bench sees', and that an answer reports the lowest
-- that applies. Definitions only.
use Rattle.std.specs.Prelude.{ℕ, ◌≤◌, ◌≡◌, List}
use Rattle.rules.specs.Refusals.{Answer, refused, given}
use Rattle.rules.specs.Book.{sound, broken_at, check_book}

-- A row of 'Numbers the bench sees': the number, and the fact that it is given for; then the further rows.
pub data Row (number : ℕ) (fact : Type 0) (more : ℕ → Type 0) : ℕ → Type 0 where
  here : fact → Row number fact more number
  later : {n : ℕ} → more n → Row number fact more n

-- no row
abbrev pub NoRow : ℕ → Type 0
NoRow n = ⊥

-- The rows of a first answer; and of what follows where that is given.
pub data Then {A : Type 0} (first : ℕ → Type 0) (a : Answer A) (following : A → ℕ → Type 0) : ℕ → Type 0 where
  before : {n : ℕ} → first n → Then first a following n
  after : {n : ℕ} (x : A) → a ≡ given x → following x n → Then first a following n

-- n applies, and no lower number does
pub record Lowest (Wrong : ℕ → Type 0) (n : ℕ) : Type 0 where
  pub applies : Wrong n
  pub no_lower : (m : ℕ) → Wrong m → n ≤ m

-- The answer reports what is wrong, none of it numbered below low: it is given where nothing is wrong, and is refused
-- by the lowest number that applies.
pub record Reports {A : Type 0} (low : ℕ) (Wrong : ℕ → Type 0) (a : Answer A) : Type 0 where
  pub from : (m : ℕ) → Wrong m → low ≤ m
  pub if-given : (x : A) → a ≡ given x → (n : ℕ) → Wrong n → ⊥
  pub if-refused : (n p : ℕ) → a ≡ refused n p → (p ≡ 0) × Lowest Wrong n

-- "12 first", with its byte; of a sound book the lowest number.
pub record OnBook {A : Type 0} (book : List ℕ) (Wrong : ℕ → Type 0) (a : Answer A) : Type 0 where
  pub broken : (byte : ℕ) → check_book book ≡ broken_at byte → a ≡ refused 12 byte
  pub else : check_book book ≡ sound → Reports 1 Wrong a
