-- What a visit leaves, and that a second visit of a node under its new limit changes nothing. Assumes nothing.
use Rattle.std.proofs.Common.{◌≡◌, ℕ, ◌+◌, ◌-◌, ◌*◌, ◌≤◌, min, Bool, true, false, cond, not, ◌&&◌, ◌||◌, eqb, ltb, List, [], ◌∷◌, ◌++◌, length, replicate, is_some, Some, None, Option, sym, refl, ap, ◌∙◌, subst, append_assoc, arith}
use Rattle.std.specs.Option.{option_to_list}
use Rattle.std.specs.List.{AllByRecursion}
use Rattle.std.proofs.lemmas.List.{length-append}
use Rattle.std.proofs.lemmas.Bool.Decides.{nat_tests}
use Rattle.plan.specs.declared.cells.Cell.{Cell}
use Rattle.plan.specs.Kinds.{is_limit}
use Rattle.operators.specs.Answers.{Answers}
use Rattle.operators.specs.Questions.{passes_limits, takes_fetch, takes_mark}
use Rattle.checks.specs.declared.facts.Fact.{Fact}
use Rattle.checks.specs.Facts.{head_fact, fact_of, facts}
use Rattle.rows.specs.Grow.{with_fetch}
use Rattle.sinks.specs.declared.requirements.GlobalRequirements.{GlobalRequirements}
use Rattle.sinks.specs.declared.requirements.Visited.{Visited}
use Rattle.sinks.specs.Sink.{combined_fetch, past_limit, past_fetch, new_global, new_local, only_if, with_mark, satisfied_to, skipped_by, gathered, fetched, limit_over, limited, fetching_by, combines_partitions, visited_by, visited, again_by, settled, step_by, step, sunk}

-- the cells in a node's place, before those behind it
abbrev pub put : Visited → List Cell → List Cell
put v rest = option_to_list v.above ++ v.node ∷ rest

-- a node with another fetch and mark
abbrev pub renewed : Cell → ℕ → Bool → Cell
renewed c n b = with_fetch (with_mark c b) (Some n)

-- a node's own fetch leaves the skip, and combines
pub own_skip : (r : GlobalRequirements) (f : Option ℕ) → (past_fetch r f).skip ≡ r.skip
own_skip r None = refl
own_skip r (Some f) = omega arith

combined_none : (s : ℕ) (f : Option ℕ) → combined_fetch s f None ≡ f
combined_none s None = refl
combined_none s (Some f) = refl

pub own_fetch : (r : GlobalRequirements) (f : Option ℕ) → (past_fetch r f).fetch ≡ combined_fetch r.skip r.fetch f
own_fetch r None = sym (combined_none r.skip r.fetch)
own_fetch r (Some f) = refl

-- with nothing pending after it, there is none, and nothing was pending before
pub none_both : (s : ℕ) (f g : Option ℕ) → combined_fetch s f g ≡ None → (f ≡ None) × (g ≡ None)
none_both s None None e = (refl, refl)
none_both s None (Some g) e = absurd cc
none_both s (Some f) None e = absurd cc
none_both s (Some f) (Some g) e = absurd cc

module _ (a : Answers) (partitions : ℕ) where
  -- the same node, and the same goes on
  abbrev Steady : Visited → Type 0
  Steady v = visited a v.next v.node partitions ≡ record { above = None; node = v.node; next = v.next }

  -- what changes nothing where something goes above
  again_steady : (v : Visited) (o : Option Cell) → (is_some o ≡ true → Steady v) → again_by a partitions v o ≡ (option_to_list o ++ v.node ∷ [], v.next)
  again_steady v None steady = refl
  again_steady v (Some limit) steady = ap (λ w. (limit ∷ option_to_list w.above ++ w.node ∷ [], w.next)) (steady refl)

  module _ (r : GlobalRequirements) (c : Cell) where
    skipped_steady : (b : Bool) → c.fetch ≡ None → is_some (skipped_by b r c).above ≡ true → Steady (skipped_by b r c)
    skipped_steady true e some = let next = satisfied_to r None in ap (λ f. let own = past_fetch next f in visited_by a own c partitions own.fetch) e
    skipped_steady false e some = absurd (grind (arith, nat_tests))

    gathered_steady : (n : ℕ) → combines_partitions c.kind ≡ true → Steady (gathered r c n)
    gathered_steady n e =
        let total = n + r.skip in
        let node = renewed c total c.mark in
        let own = past_fetch (satisfied_to r (Some total)) (Some total) in
        let same : min total (total - 0) + (0 + 0) ≡ total = omega arith in
        ap (λ x. fetching_by x (passes_limits a c.kind c.parameter) (takes_fetch a c.kind c.parameter) a own node partitions (min total (total - 0))) e
        ∙ (λ i. record { above = None; node = renewed c (same i) c.mark; next = satisfied_to r (Some (same i)) })

    fetched_steady : (n : ℕ) → combines_partitions c.kind ≡ false → passes_limits a c.kind c.parameter ≡ false → takes_fetch a c.kind c.parameter ≡ true → Steady (fetched a r c n)
    fetched_steady n e1 e2 e3 =
        let total = n + r.skip in
        let b = takes_mark a c.kind c.parameter in
        let node = renewed c total (cond b r.preserve_order c.mark) in
        let own = past_fetch (satisfied_to r None) (Some total) in
        let same : (total - 0) + (0 + 0) ≡ total = omega arith in
        (λ i. fetching_by (e1 i) (e2 i) (e3 i) a own node partitions (total - 0))
        ∙ (λ i. record { above = None; node = renewed c (same i) (twice b r.preserve_order c.mark i); next = satisfied_to r None })
      where
        twice : (b o m : Bool) → cond b o (cond b o m) ≡ cond b o m
        twice true o m = refl
        twice false o m = refl

    limited_steady : (n : ℕ) → combines_partitions c.kind ≡ false → passes_limits a c.kind c.parameter ≡ false → takes_fetch a c.kind c.parameter ≡ false → Steady (limited r c partitions n)
    limited_steady n e1 e2 e3 = go c.fetch refl
      where
        next : GlobalRequirements
        next = satisfied_to r None

        go : (f : Option ℕ) → c.fetch ≡ f → Steady (limited r c partitions n)
        go None e = ap (λ f. let own = past_fetch next f in visited_by a own c partitions own.fetch) e
        go (Some f) e =
            ap (λ f. let own = past_fetch next f in visited_by a own c partitions own.fetch) e
            ∙ (λ i. fetching_by (e1 i) (e2 i) (e3 i) a (past_fetch next (Some f)) c partitions (f - 0))

    fetching_steady : (n : ℕ) (x t y : Bool) → combines_partitions c.kind ≡ x → passes_limits a c.kind c.parameter ≡ t → takes_fetch a c.kind c.parameter ≡ y → is_some (fetching_by x t y a r c partitions n).above ≡ true → Steady (fetching_by x t y a r c partitions n)
    fetching_steady n true t y e1 e2 e3 some = gathered_steady n e1
    fetching_steady n false true y e1 e2 e3 some = absurd (grind (arith, nat_tests))
    fetching_steady n false false true e1 e2 e3 some = fetched_steady n e1 e2 e3
    fetching_steady n false false false e1 e2 e3 some = limited_steady n e1 e2 e3

  visited_steady : (r : GlobalRequirements) (c : Cell) → is_some (visited a r c partitions).above ≡ true → Steady (visited a r c partitions)
  visited_steady r c = go (past_fetch r c.fetch).fetch refl
    where
      own : GlobalRequirements
      own = past_fetch r c.fetch

      go : (f : Option ℕ) → (past_fetch r c.fetch).fetch ≡ f → is_some (visited_by a own c partitions f).above ≡ true → Steady (visited_by a own c partitions f)
      go None e = skipped_steady own c (ltb 0 own.skip && not own.satisfied) (none_both r.skip r.fetch c.fetch (sym (own_fetch r c.fetch) ∙ e)).1
      go (Some n) e = fetching_steady own c n (combines_partitions c.kind) (passes_limits a c.kind c.parameter) (takes_fetch a c.kind c.parameter) refl refl refl

  -- the second visit changes nothing
  pub visited_again : (r : GlobalRequirements) (c : Cell) → let v = visited a r c partitions in settled a r c partitions ≡ (put v [], v.next)
  visited_again r c = let v = visited a r c partitions in again_steady v v.above (visited_steady r c)

-- what holds of the limits that go above a node
module _ (P : Cell → Type 0) (global : (s : ℕ) (f : Option ℕ) → P (new_global s f)) (local : (n : ℕ) → P (new_local n)) where
  above_if : (b : Bool) (l : Cell) → P l → AllByRecursion P (option_to_list (only_if b l))
  above_if true l h = (h, tt)
  above_if false l h = tt

  some_limit : (b : Bool) (r : GlobalRequirements) (n : ℕ) → P (limit_over b r n)
  some_limit true r n = global r.skip (Some n)
  some_limit false r n = local (n + r.skip)

  skipped_above : (b : Bool) (r : GlobalRequirements) (c : Cell) → AllByRecursion P (option_to_list (skipped_by b r c).above)
  skipped_above true r c = (global r.skip None, tt)
  skipped_above false r c = tt

  fetching_above : (x t y : Bool) (a : Answers) (r : GlobalRequirements) (c : Cell) (partitions n : ℕ) → AllByRecursion P (option_to_list (fetching_by x t y a r c partitions n).above)
  fetching_above true t y a r c partitions n = above_if (ltb 0 r.skip) (new_global r.skip (Some n)) (global r.skip (Some n))
  fetching_above false true y a r c partitions n = tt
  fetching_above false false true a r c partitions n = above_if (ltb 0 r.skip && not r.satisfied) (new_global r.skip (Some n)) (global r.skip (Some n))
  fetching_above false false false a r c partitions n = let x = ltb 0 r.skip || eqb partitions 1 in above_if (not r.satisfied) (limit_over x r n) (some_limit x r n)

  visited_above_by : (a : Answers) (r : GlobalRequirements) (c : Cell) (partitions : ℕ) (f : Option ℕ) → AllByRecursion P (option_to_list (visited_by a r c partitions f).above)
  visited_above_by a r c partitions None = skipped_above (ltb 0 r.skip && not r.satisfied) r c
  visited_above_by a r c partitions (Some n) = fetching_above (combines_partitions c.kind) (passes_limits a c.kind c.parameter) (takes_fetch a c.kind c.parameter) a r c partitions n

  pub visited_above : (a : Answers) (r : GlobalRequirements) (c : Cell) (partitions : ℕ) → AllByRecursion P (option_to_list (visited a r c partitions).above)
  visited_above a r c partitions = let own = past_fetch r c.fetch in visited_above_by a own c partitions own.fetch

-- a mark stands where it is taken
abbrev pub mark_taken : Answers → Cell → Bool → Type 0
mark_taken a c b = (not b || takes_mark a c.kind c.parameter) ≡ true

-- what holds of the node itself
module _ (a : Answers) (c : Cell) (Q : Cell → Type 0) (same : Q c) (other : (n : ℕ) (b : Bool) → takes_fetch a c.kind c.parameter ≡ true → (mark_taken a c c.mark → mark_taken a c b) → Q (renewed c n b)) where
  mark_fits : (b o x : Bool) → (not x || b) ≡ true → (not (cond b o x) || b) ≡ true
  mark_fits true true x h = refl
  mark_fits true false x h = refl
  mark_fits false o x h = h

  skipped_node : (b : Bool) (r : GlobalRequirements) → Q (skipped_by b r c).node
  skipped_node true r = same
  skipped_node false r = same

  fetching_node : (x t y : Bool) → combines_partitions c.kind ≡ x → takes_fetch a c.kind c.parameter ≡ y → (r : GlobalRequirements) (partitions n : ℕ) → Q (fetching_by x t y a r c partitions n).node
  fetching_node true t y e1 e2 r partitions n = other (n + r.skip) c.mark (grind (arith, nat_tests)) (λ h. h)
  fetching_node false true y e1 e2 r partitions n = same
  fetching_node false false true e1 e2 r partitions n = let b = takes_mark a c.kind c.parameter in other (n + r.skip) (cond b r.preserve_order c.mark) e2 (mark_fits b r.preserve_order c.mark)
  fetching_node false false false e1 e2 r partitions n = same

  visited_node_by : (r : GlobalRequirements) (partitions : ℕ) (f : Option ℕ) → Q (visited_by a r c partitions f).node
  visited_node_by r partitions None = skipped_node (ltb 0 r.skip && not r.satisfied) r
  visited_node_by r partitions (Some n) = fetching_node (combines_partitions c.kind) (passes_limits a c.kind c.parameter) (takes_fetch a c.kind c.parameter) refl refl r partitions n

  pub visited_node : (r : GlobalRequirements) (partitions : ℕ) → Q (visited a r c partitions).node
  visited_node r partitions = let own = past_fetch r c.fetch in visited_node_by own partitions own.fetch

-- a step at a limit, and at any other node
pub step_limit : (a : Answers) (r : GlobalRequirements) (c : Cell) (fs : List Fact) → is_limit c.kind ≡ true → step a r c fs ≡ ([], past_limit r c (head_fact fs))
step_limit a r c fs e = ap (λ b. step_by b a r c fs) e

pub step_node : (a : Answers) (r : GlobalRequirements) (c : Cell) (fs : List Fact) → is_limit c.kind ≡ false → let v = visited a r c (fact_of a c fs).partitions in step a r c fs ≡ (put v [], v.next)
step_node a r c fs e = ap (λ b. step_by b a r c fs) e ∙ visited_again a (fact_of a c fs).partitions r c

module _ (a : Answers) (r : GlobalRequirements) (rs : List GlobalRequirements) (c : Cell) (cs : List Cell) where
  pub sunk_limit : is_limit c.kind ≡ true → sunk a (r ∷ rs) (c ∷ cs) ≡ sunk a (replicate c.children (past_limit r c (head_fact (facts a cs))) ++ rs) cs
  unfolding sunk
  sunk_limit e = ap (λ done. done.0 ++ sunk a (replicate c.children done.1 ++ rs) cs) (step_limit a r c (facts a cs) e)

  pub sunk_node : is_limit c.kind ≡ false → let v = visited a r c (fact_of a c (facts a cs)).partitions in sunk a (r ∷ rs) (c ∷ cs) ≡ put v (sunk a (replicate c.children v.next ++ rs) cs)
  unfolding sunk
  sunk_node e =
      let v = visited a r c (fact_of a c (facts a cs)).partitions in
      ap (λ done. done.0 ++ sunk a (replicate c.children done.1 ++ rs) cs) (step_node a r c (facts a cs) e)
      ∙ append_assoc (option_to_list v.above) (v.node ∷ []) (sunk a (replicate c.children v.next ++ rs) cs)

-- no cell gives more than two
step_length : (a : Answers) (r : GlobalRequirements) (c : Cell) (fs : List Fact) → length (step a r c fs).0 ≤ 2
step_length a r c fs = go (is_limit c.kind) refl
  where
    few : (o : Option Cell) (d : Cell) → length (option_to_list o ++ d ∷ []) ≤ 2
    few None d = omega arith
    few (Some l) d = omega arith

    go : (b : Bool) → is_limit c.kind ≡ b → length (step a r c fs).0 ≤ 2
    go true e = subst (λ s. length s.0 ≤ 2) (sym (step_limit a r c fs e)) (omega arith)
    go false e =
        let v = visited a r c (fact_of a c fs).partitions in
        subst (λ s. length s.0 ≤ 2) (sym (step_node a r c fs e)) (few v.above v.node)

pub sunk_length : (a : Answers) (cs : List Cell) (rs : List GlobalRequirements) → length (sunk a rs cs) ≤ 2 * length cs
unfolding sunk
sunk_length a [] rs = omega arith
sunk_length a (c ∷ cs) [] = omega arith
sunk_length a (c ∷ cs) (r ∷ rs) =
    let done = step a r c (facts a cs) in
    let qs = replicate c.children done.1 ++ rs in
    let rest = sunk_length a cs qs in
    let here = step_length a r c (facts a cs) in
    let both = length-append done.0 (sunk a qs cs) in
    omega arith
