-- What a set's sources hold and its other operators make, and that for all of it the set shows the rules. Assumes nothing.
use Rattle.std.specs.Prelude.{◌≡◌, ℕ, Bool, true, false, cond, [], length, Option}
use Rattle.operators.specs.Answers.{Answers}
use Rattle.operators.specs.Questions.{fits_of, partitions_of}
use Rattle.operators.specs.Rows.{Row, Partitions, Meaning}
use Rattle.operators.specs.Rules.{RulesAt, Rules}

-- rows for each source, by kind and parameter, in as many partitions as the set answers
abbrev pub InPartitions : Answers → (ℕ → Bool) → (ℕ → ℕ → Partitions) → Type 0
InPartitions a source rows = (k p : ℕ) → source k ≡ true → fits_of a k p 0 ≡ true → length (rows k p) ≡ partitions_of a k p 0

-- stored data: the rows at the sources, and of every other kind and parameter any making that the rules allow
pub record Stored (a : Answers) (source : ℕ → Bool) : Type 0 where
  pub rows : ℕ → ℕ → Partitions
  pub in_partitions : InPartitions a source rows
  pub key : ℕ → Row → Row
  pub key_key : (g : ℕ) (r : Row) → key g (key g r) ≡ key g r
  pub makes : Meaning
  pub allowed : (k p : ℕ) → source k ≡ false → RulesAt a key k p (makes k p)

-- the meaning made of stored data
abbrev pub meaning_of : {a : Answers} {source : ℕ → Bool} → Stored a source → Meaning
meaning_of {a} {source} s k p = cond (source k) (λ b h cs. s.rows k p) (s.makes k p)

-- a set shows the rules for all stored data, with those rows at its sources; and there are such data for every choice of rows
pub record Shows (a : Answers) (source : ℕ → Bool) : Type 0 where
  pub shown : (s : Stored a source) → Rules a (meaning_of s)
  pub rows_there : (s : Stored a source) (k p : ℕ) (b : Bool) (h : Option ℕ) → source k ≡ true → meaning_of s k p b h [] ≡ s.rows k p
  pub stored : (rows : ℕ → ℕ → Partitions) → InPartitions a source rows → (s : Stored a source) × (s.rows ≡ rows)
