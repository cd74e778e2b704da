-- Grow keeps the rows. Assumes nothing.
use Rattle.std.proofs.Common.{◌≡◌, ℕ, ◌+◌, ◌<◌, ◌≤◌, min, max, Bool, true, false, cond, ◌||◌, eqb, leb, ◌⊎◌, List, [], ◌∷◌, map, length, take, drop, Some, None, Option, sym, refl, ap, ◌∙◌, subst, inl, arith}
use Rattle.std.proofs.lemmas.List.{take-take}
use Rattle.std.proofs.lemmas.Bool.{and_parts, or_parts, false≢true, eqb-true}
use Rattle.std.proofs.lemmas.Bool.Decides.{nat_tests}
use Rattle.plan.specs.declared.cells.Cell.{Cell}
use Rattle.plan.specs.Kinds.{is_limit, coalesce_partitions, sort_preserving_merge, sort, bounded_window_agg}
use Rattle.operators.specs.declared.answers.WindowExpr.{WindowExpr}
use Rattle.operators.specs.declared.windows.Reach.{Reach}
use Rattle.operators.specs.Answers.{Answers}
use Rattle.operators.specs.Questions.{fits_of, passes_limits}
use Rattle.operators.specs.Windows.{all_reach, following_of, relative_of, reach_of}
use Rattle.operators.specs.Rows.{Row, Partitions, Meaning, cut, concat, made_by, made, node_rows, rows}
use Rattle.operators.specs.Rules.{Agree, Rules, each}
use Rattle.checks.specs.Cells.{fit_cell}
use Rattle.checks.specs.Windows.{window_refused, below_after}
use Rattle.rows.specs.declared.growing.Phase.{Phase}
use Rattle.rows.specs.declared.growing.Phase.TheVariants.{FindOrGrow, Apply, Ended}
use Rattle.rows.specs.declared.growing.TraverseState.{TraverseState}
use Rattle.rows.specs.Grow.{grow_first, finding, ended, finds, applies, lets_through, turn_by, reset_limit, limit_found, past_window, past_apply, grow_next_by, grow_next, smaller_fetch, with_fetch, applied, grown_cell_by, grown, grown_plan}
use Rattle.rows.proofs.Agreeing.{map-map, map_same, take_twice, agree_count, agree_join, agree_less, agree_each, agree_rows, agree_cut, agree_limit, concat_one}
use Rattle.rows.proofs.Base.{kind_one, through_limit, through_some, made_limit, made_joined, made_meant}
use Rattle.rows.proofs.Passed.{Fit, WindowsPass}

abbrev NearBy : Option ℕ → ℕ → Partitions → Partitions → Type 0
NearBy None ahead o n = o ≡ n
NearBy (Some limit) ahead o n = Agree (limit + ahead) o n

-- the new partitions agree with the old as far as the state's limit and look-ahead go
abbrev Near : TraverseState → Partitions → Partitions → Type 0
Near s o n = NearBy s.limit s.lookahead o n

-- the state speaks of the first subtree to come, and the others are the same
abbrev Nears : TraverseState → List Partitions → List Partitions → Type 0
Nears s [] [] = Unit {0}
Nears s [] (n ∷ ns) = ⊥
Nears s (o ∷ os) [] = ⊥
Nears s (o ∷ os) (n ∷ ns) = Near s o n × (os ≡ ns)

near_same_by : (l : Option ℕ) (k : ℕ) (o n : Partitions) → o ≡ n → NearBy l k o n
near_same_by None k o n e = e
near_same_by (Some l) k o n e = ap (map (take (l + k))) e

nears_same : (s : TraverseState) (os ns : List Partitions) → s.limit ≡ None → Nears s os ns → os ≡ ns
nears_same s [] [] e h = refl
nears_same s [] (n ∷ ns) e h = absurd h
nears_same s (o ∷ os) [] e h = absurd h
nears_same s (o ∷ os) (n ∷ ns) e h =
    let h0 : o ≡ n = subst (λ l. NearBy l s.lookahead o n) e h.0 in
    λ i. h0 i ∷ h.1 i

-- what a node has to show
abbrev Kept : Meaning → TraverseState → Cell → Cell → List Partitions → List Partitions → Type 0
Kept m s c d os ns = Near s (node_rows m c (take c.children os)) (node_rows m d (take d.children ns)) × (drop c.children os ≡ drop d.children ns)

kept_same : (m : Meaning) (s : TraverseState) (c : Cell) (os ns : List Partitions) → os ≡ ns → Kept m s c c os ns
kept_same m s c os ns e = (near_same_by s.limit s.lookahead _ _ (ap (λ z. node_rows m c (take c.children z)) e), ap (drop c.children) e)

made_fetch_by : (l j : Bool) (m : Meaning) (c : Cell) (f : Option ℕ) (below : List Partitions) → made_by l j m (with_fetch c f) below ≡ made_by l j m c below
unfolding made_by
made_fetch_by true j m c f below = refl
made_fetch_by false true m c f below = refl
made_fetch_by false false m c f below = refl

shortened : (n : ℕ) (f : Option ℕ) (xs : List Row) → take n (cut f xs) ≡ take n (take (smaller_fetch f n) xs)
shortened n None xs = sym (take-take n n xs (omega arith))
shortened n (Some f) xs = take_twice n f xs ∙ ap (λ k. take k xs) (omega arith) ∙ sym (take_twice n (min f n) xs)

-- a sort or merge that gets the limit
kept_applied : (m : Meaning) (s : TraverseState) (c : Cell) (os ns : List Partitions) (l : Option ℕ) → os ≡ ns
    → NearBy l s.lookahead (node_rows m c (take c.children os)) (node_rows m (applied s l c) (take (applied s l c).children ns)) × (drop c.children os ≡ drop (applied s l c).children ns)
kept_applied m s c os ns None same = (ap (λ z. node_rows m c (take c.children z)) same, ap (drop c.children) same)
kept_applied m s c os ns (Some l) same =
    let n = l + s.lookahead in
    let f = Some (smaller_fetch c.fetch n) in
    let old = made m c (take c.children os) in
    let new : made m (with_fetch c f) (take c.children ns) ≡ old =
    made_fetch_by (is_limit c.kind) (eqb c.kind coalesce_partitions) m c f (take c.children ns) ∙ ap (λ z. made m c (take c.children z)) (sym same) in (
      map-map (take n) (cut c.fetch) old
          ∙ map_same (λ x. take n (cut c.fetch x)) (λ x. take n (take (smaller_fetch c.fetch n) x)) (shortened n c.fetch) old
          ∙ sym (map-map (take n) (take (smaller_fetch c.fetch n)) old)
          ∙ ap (λ z. map (take n) (map (take (smaller_fetch c.fetch n)) z)) (sym new),
      ap (drop c.children) same,
    )

kept_one : (m : Meaning) (s t : TraverseState) (c : Cell) (os ns : List Partitions) → c.children ≡ 1 → Nears t os ns → ((o n : Partitions) → Near t o n → Near s (node_rows m c (o ∷ [])) (node_rows m c (n ∷ []))) → Kept m s c c os ns
kept_one m s t c os ns e h f = subst (λ k. Near s (node_rows m c (take k os)) (node_rows m c (take k ns)) × (drop k os ≡ drop k ns)) (sym e) (go os ns h)
  where
    go : (os ns : List Partitions) → Nears t os ns → Near s (node_rows m c (take 1 os)) (node_rows m c (take 1 ns)) × (drop 1 os ≡ drop 1 ns)
    go [] [] h = (near_same_by s.limit s.lookahead _ _ refl, refl)
    go [] (n ∷ ns) h = absurd h
    go (o ∷ os) [] h = absurd h
    go (o ∷ os) (n ∷ ns) h = (f o n h.0, h.1)

agree_made : (N : ℕ) (m : Meaning) (c : Cell) (o n : Partitions) (x y : Partitions) → made m c (o ∷ []) ≡ x → made m c (n ∷ []) ≡ y → Agree N x y → Agree N (node_rows m c (o ∷ [])) (node_rows m c (n ∷ []))
agree_made N m c o n x y e f h = agree_cut N c.fetch _ _ (ap (map (take N)) e ∙ h ∙ ap (map (take N)) (sym f))

-- where neither a limit is found nor one applied there is no merge
no_merge : (p : Phase) (k : ℕ) → ended p ≡ false → finds p k ≡ false → applies p k ≡ false → eqb k sort_preserving_merge ≡ false
no_merge FindOrGrow k on e f = (or_parts (is_limit k) (eqb k sort_preserving_merge) e).1
no_merge Apply k on e f = (or_parts (eqb k sort) (eqb k sort_preserving_merge) f).1
no_merge Ended k on e f = absurd (false≢true (sym on))

-- either nothing is looked ahead, or a window above does
abbrev Ahead : TraverseState → ℕ → Type 0
Ahead s below = (s.lookahead ≡ 0) ⊎ (0 < below)

-- a window's reach, by whether it has one
abbrev reach_if : Bool → List WindowExpr → Option Reach
reach_if b es = cond b (Some (record { following = following_of es; relative = relative_of es })) None

-- the walk that has ended has no limit
abbrev Stopped : TraverseState → Type 0
Stopped s = ended s.phase ≡ true → (s.limit ≡ None) × (s.lookahead ≡ 0)

module _ (a : Answers) (m : Meaning) (rules : Rules a m) where
  through_one : (k p n : ℕ) → fits_of a k p n ≡ true → passes_limits a k p ≡ true → n < 2 → n ≡ 1
  through_one k p n h t l = let some = through_some a m rules k p n h t in omega arith

  -- a node that passes limits, other than a merge
  through_agrees : (c : Cell) (N : ℕ) (o n : Partitions) → fit_cell a c ≡ true → c.children ≡ 1 → passes_limits a c.kind c.parameter ≡ true → eqb c.kind sort_preserving_merge ≡ false → Agree N o n → Agree N (node_rows m c (o ∷ [])) (node_rows m c (n ∷ []))
  through_agrees c N o n fit one pass not6 h = go (eqb c.kind coalesce_partitions) refl
    where
      lim : is_limit c.kind ≡ false
      lim = through_limit a c.kind c.parameter pass

      fits1 : fits_of a c.kind c.parameter 1 ≡ true
      fits1 = subst (λ k. fits_of a c.kind c.parameter k ≡ true) one fit

      go : (b : Bool) → eqb c.kind coalesce_partitions ≡ b → Agree N (node_rows m c (o ∷ [])) (node_rows m c (n ∷ []))
      go true e = agree_made N m c o n (concat o ∷ []) (concat n ∷ []) (made_joined m c (o ∷ []) lim e ∙ ap (λ z. concat z ∷ []) (concat_one o)) (made_joined m c (n ∷ []) lim e ∙ ap (λ z. concat z ∷ []) (concat_one n)) (agree_join N o n h)
      go false e =
          let r = (rules.at c.kind c.parameter).each_row (grind (arith, nat_tests)) c.mark c.hint in
          let f = r.0 (length o ∷ []) in
          let count = agree_count N o n h in
          agree_made N m c o n (each (λ i. map (f i)) 0 o) (each (λ i. map (f i)) 0 n)
          (made_meant m c (o ∷ []) lim e ∙ r.1 (o ∷ []) fits1 ∙ ap (each (λ i. map (f i)) 0) (concat_one o))
          (made_meant m c (n ∷ []) lim e ∙ r.1 (n ∷ []) fits1 ∙ (λ j. each (λ i. map (r.0 (sym count j ∷ []) i)) 0 (concat_one n j)))
          (agree_rows N f o n h)

  through_near : (c : Cell) (l : Option ℕ) (k : ℕ) (o n : Partitions) → fit_cell a c ≡ true → c.children ≡ 1 → passes_limits a c.kind c.parameter ≡ true → eqb c.kind sort_preserving_merge ≡ false → NearBy l k o n → NearBy l k (node_rows m c (o ∷ [])) (node_rows m c (n ∷ []))
  through_near c None k o n fit one pass not6 h = ap (λ z. node_rows m c (z ∷ [])) h
  through_near c (Some l) k o n fit one pass not6 h = through_agrees c (l + k) o n fit one pass not6 h

  -- a limit, or a merge, whose fetch is the state's limit
  found_same : (c : Cell) (f : Option ℕ) (o n : Partitions) → fits_of a c.kind c.parameter 1 ≡ true → c.fetch ≡ f → (is_limit c.kind || eqb c.kind sort_preserving_merge) ≡ true → NearBy (limit_found c.skip f) 0 o n → node_rows m c (o ∷ []) ≡ node_rows m c (n ∷ [])
  found_same c None o n fit e k h = ap (λ z. node_rows m c (z ∷ [])) h
  found_same c (Some f) o n fit e k h = go (is_limit c.kind) refl
    where
      agree : Agree (c.skip + f) o n
      agree = agree_less (c.skip + f) (c.skip + f + 0) o n (omega arith) h

      go : (b : Bool) → is_limit c.kind ≡ b → node_rows m c (o ∷ []) ≡ node_rows m c (n ∷ [])
      go true lim =
          let at : (z : Partitions) → node_rows m c (z ∷ []) ≡ map (take f) (map (drop c.skip) z) =
          λ z. ap (λ g. map (cut g) (made m c (z ∷ []))) e ∙ ap (map (take f)) (made_limit m c (z ∷ []) lim ∙ ap (map (drop c.skip)) (concat_one z)) in
          at o ∙ agree_limit c.skip f o n agree ∙ sym (at n)
      go false lim =
          let six : c.kind ≡ sort_preserving_merge = grind (arith, nat_tests) in
          let at : (z : Partitions) → node_rows m c (z ∷ []) ≡ map (take f) (m c.kind c.parameter c.mark c.hint (z ∷ [])) =
          λ z. ap (λ g. map (cut g) (made m c (z ∷ []))) e ∙ ap (map (take f)) (made_meant m c (z ∷ []) lim (grind (arith, nat_tests))) in
          at o ∙ (rules.at c.kind c.parameter).merge six c.mark c.hint f o n fit (agree_less f (c.skip + f) o n (omega arith) agree) ∙ sym (at n)

  -- a window with a reach
  window_agrees : (c : Cell) (N M : ℕ) (o n : Partitions) → fits_of a c.kind c.parameter 1 ≡ true → c.kind ≡ bounded_window_agg → all_reach (a.window c.parameter) ≡ true
      → N + (following_of (a.window c.parameter) + relative_of (a.window c.parameter)) ≤ M → Agree M o n → Agree N (node_rows m c (o ∷ [])) (node_rows m c (n ∷ []))
  window_agrees c N M o n fit k r l h =
      let w = (rules.at c.kind c.parameter).window k c.mark c.hint fit in
      let K = N + (following_of (a.window c.parameter) + relative_of (a.window c.parameter)) in
      let lim : is_limit c.kind ≡ false = grind (arith, nat_tests) in
      let not5 : eqb c.kind coalesce_partitions ≡ false = grind (arith, nat_tests) in
      let at : (z : Partitions) → made m c (z ∷ []) ≡ each w.0 0 z = λ z. made_meant m c (z ∷ []) lim not5 ∙ w.1 z in
      agree_made N m c o n (each w.0 0 o) (each w.0 0 n) (at o) (at n)
      (agree_each N K w.0 (λ i z. take N (w.0 i z)) (λ i xs. w.2 r i N xs (take K xs) (sym (take-take K K xs (omega arith)))) o n (agree_less K M o n l h))

  window_near : (c : Cell) (s : TraverseState) (below : ℕ) (o n : Partitions) (l : Option ℕ) → fits_of a c.kind c.parameter 1 ≡ true → s.limit ≡ l → c.kind ≡ bounded_window_agg → (r : Bool) → all_reach (a.window c.parameter) ≡ r
      → Ahead s below → window_refused a below c ≡ false → Near (past_window s (reach_if r (a.window c.parameter))) o n → NearBy l s.lookahead (node_rows m c (o ∷ [])) (node_rows m c (n ∷ []))
  window_near c s below o n l fit1 e k false re ahead fit h = near_same_by l s.lookahead _ _ (ap (λ z. node_rows m c (z ∷ [])) h)
  window_near c s below o n None fit1 e k true re ahead fit h = ap (λ z. node_rows m c (z ∷ [])) (subst (λ l. NearBy l (past_window s (reach_if true (a.window c.parameter))).lookahead o n) e h)
  window_near c s below o n (Some l) fit1 e k true re ahead fit h =
      let lk = s.lookahead in
      let F = following_of (a.window c.parameter) in
      let R = relative_of (a.window c.parameter) in
      let w : (lk ≡ 0) ⊎ (F + R ≡ 0) = grind (arith, nat_tests) in
      let enough : (l + lk) + (F + R) ≤ l + (max lk F + R) = omega arith in
      window_agrees c (l + lk) (l + (max lk F + R)) o n fit1 k re enough (subst (λ l. NearBy l (past_window s (reach_if true (a.window c.parameter))).lookahead o n) e h)

  -- one node, by the tests of `turn`
  step : (s : TraverseState) (c : Cell) (below : ℕ) (os ns : List Partitions) → fit_cell a c ≡ true → window_refused a below c ≡ false → Ahead s below → Stopped s → (e f d w z t : Bool)
      → ended s.phase ≡ e → leb 2 c.children ≡ f → finds s.phase c.kind ≡ d → eqb c.kind bounded_window_agg ≡ w → applies s.phase c.kind ≡ z → lets_through a c.kind c.parameter ≡ t
      → Nears (grow_next_by (turn_by e f d w z t) a s c) os ns → Kept m s c (grown_cell_by (turn_by e f d w z t) s c) os ns
  step s c below os ns fit win ahead stop true f d w z t e1 e2 e3 e4 e5 e6 h = kept_same m s c os ns (nears_same s os ns (stop e1).0 h)
  step s c below os ns fit win ahead stop false true d w z t e1 e2 e3 e4 e5 e6 h = kept_same m s c os ns (nears_same (reset_limit s None) os ns refl h)
  step s c below os ns fit win ahead stop false false true w z t e1 e2 e3 e4 e5 e6 h =
      let here : (is_limit c.kind || eqb c.kind sort_preserving_merge) ≡ true = (and_parts (finding s.phase) (is_limit c.kind || eqb c.kind sort_preserving_merge) e3).1 in
      let one : c.children ≡ 1 = kind_one a c.kind c.parameter c.children fit (grind (arith, nat_tests)) (grind (arith, nat_tests)) in
      kept_one m s (reset_limit s (limit_found c.skip c.fetch)) c os ns one h (λ o n k. near_same_by s.limit s.lookahead _ _ (found_same c c.fetch o n (subst (λ k. fits_of a c.kind c.parameter k ≡ true) one fit) refl here k))
  step s c below os ns fit win ahead stop false false false true z t e1 e2 e3 e4 e5 e6 h =
      let eight : c.kind ≡ bounded_window_agg = eqb-true c.kind bounded_window_agg e4 in
      let one : c.children ≡ 1 = kind_one a c.kind c.parameter c.children fit (omega arith) (omega arith) in
      kept_one m s (past_window s (reach_of (a.window c.parameter))) c os ns one h (λ o n k. window_near c s below o n s.limit (subst (λ k. fits_of a c.kind c.parameter k ≡ true) one fit) refl eight (all_reach (a.window c.parameter)) refl ahead win k)
  step s c below os ns fit win ahead stop false false false false true t e1 e2 e3 e4 e5 e6 h = kept_applied m s c os ns s.limit (same_below s.limit h)
    where
      same_below : (l : Option ℕ) → Nears (past_apply s l) os ns → os ≡ ns
      same_below None h = nears_same (reset_limit s None) os ns refl h
      same_below (Some l) h = nears_same (past_apply s (Some l)) os ns refl h
  step s c below os ns fit win ahead stop false false false false false true e1 e2 e3 e4 e5 e6 h =
      let pass : passes_limits a c.kind c.parameter ≡ true = (and_parts _ _ e6).0 in
      let one : c.children ≡ 1 = through_one c.kind c.parameter c.children fit pass (grind (arith, nat_tests)) in
      kept_one m s s c os ns one h (λ o n k. through_near c s.limit s.lookahead o n fit one pass (no_merge s.phase c.kind e1 e3 e5) k)
  step s c below os ns fit win ahead stop false false false false false false e1 e2 e3 e4 e5 e6 h = kept_same m s c os ns (nears_same (reset_limit s None) os ns refl h)

  past_stopped : (s : TraverseState) (r : Option Reach) → Stopped (past_window s r)
  past_stopped s None e = absurd (false≢true e)
  past_stopped s (Some r) e = absurd (false≢true e)

  apply_stopped : (s : TraverseState) (l : Option ℕ) → Stopped (past_apply s l)
  apply_stopped s None e = (refl, refl)
  apply_stopped s (Some l) e = (refl, refl)

  next_stopped : (s : TraverseState) (c : Cell) → Stopped s → (e f d w z t : Bool) → ended s.phase ≡ e → Stopped (grow_next_by (turn_by e f d w z t) a s c)
  next_stopped s c stop true f d w z t on = stop
  next_stopped s c stop false true d w z t on = λ e. (refl, refl)
  next_stopped s c stop false false true w z t on = λ e. absurd (false≢true (sym on ∙ e))
  next_stopped s c stop false false false true z t on = past_stopped s (reach_of (a.window c.parameter))
  next_stopped s c stop false false false false true t on = apply_stopped s s.limit
  next_stopped s c stop false false false false false true on = stop
  next_stopped s c stop false false false false false false on = λ e. (refl, refl)

  apply_lookahead : (s : TraverseState) (l : Option ℕ) → (past_apply s l).lookahead ≡ 0
  apply_lookahead s None = refl
  apply_lookahead s (Some l) = refl

  window_ahead : (s : TraverseState) (c : Cell) (below : ℕ) → c.kind ≡ bounded_window_agg → c.children ≡ 1 → Ahead s below → (r : Bool) → all_reach (a.window c.parameter) ≡ r → Ahead (past_window s (reach_if r (a.window c.parameter))) (below_after a below c)
  window_ahead s c below k one ahead false e = inl refl
  window_ahead s c below k one ahead true e = grind (arith, nat_tests)

  keep_ahead : (s : TraverseState) (c : Cell) (below : ℕ) → c.children ≡ 1 → Ahead s below → Ahead s (below_after a below c)
  keep_ahead s c below one ahead = grind (arith, nat_tests)

  next_ahead : (s : TraverseState) (c : Cell) (below : ℕ) → fit_cell a c ≡ true → Ahead s below → Stopped s → (e f d w z t : Bool)
      → ended s.phase ≡ e → leb 2 c.children ≡ f → eqb c.kind bounded_window_agg ≡ w → lets_through a c.kind c.parameter ≡ t
      → Ahead (grow_next_by (turn_by e f d w z t) a s c) (below_after a below c)
  next_ahead s c below fit ahead stop true f d w z t e1 e2 e4 e6 = inl (stop e1).1
  next_ahead s c below fit ahead stop false true d w z t e1 e2 e4 e6 = inl refl
  next_ahead s c below fit ahead stop false false true w z t e1 e2 e4 e6 = inl refl
  next_ahead s c below fit ahead stop false false false true z t e1 e2 e4 e6 =
      let eight : c.kind ≡ bounded_window_agg = eqb-true c.kind bounded_window_agg e4 in
      let one : c.children ≡ 1 = kind_one a c.kind c.parameter c.children fit (omega arith) (omega arith) in
      window_ahead s c below eight one ahead (all_reach (a.window c.parameter)) refl
  next_ahead s c below fit ahead stop false false false false true t e1 e2 e4 e6 = inl (apply_lookahead s s.limit)
  next_ahead s c below fit ahead stop false false false false false true e1 e2 e4 e6 =
      let pass : passes_limits a c.kind c.parameter ≡ true = (and_parts _ _ e6).0 in
      keep_ahead s c below (through_one c.kind c.parameter c.children fit pass (grind (arith, nat_tests))) ahead
  next_ahead s c below fit ahead stop false false false false false false e1 e2 e4 e6 = inl refl

  keeps_all : (cs : List Cell) (s : TraverseState) (below : ℕ) → Fit a cs → WindowsPass a below cs → Ahead s below → Stopped s → Nears s (rows m cs) (rows m (grown a s cs))
  unfolding rows grown
  keeps_all [] s below fit win ahead stop = tt
  keeps_all (c ∷ cs) s below fit win ahead stop =
      let on = next_ahead s c below fit.0 ahead stop (ended s.phase) (leb 2 c.children) (finds s.phase c.kind) (eqb c.kind bounded_window_agg) (applies s.phase c.kind) (lets_through a c.kind c.parameter) refl refl refl refl in
      step s c below (rows m cs) (rows m (grown a (grow_next a s c) cs)) fit.0 win.0 ahead stop (ended s.phase) (leb 2 c.children) (finds s.phase c.kind) (eqb c.kind bounded_window_agg) (applies s.phase c.kind) (lets_through a c.kind c.parameter) refl refl refl refl refl refl
      (keeps_all cs (grow_next a s c) (below_after a below c) fit.1 win.1 on (next_stopped s c stop (ended s.phase) (leb 2 c.children) (finds s.phase c.kind) (eqb c.kind bounded_window_agg) (applies s.phase c.kind) (lets_through a c.kind c.parameter) refl))

  pub grow_keeps : (cs : List Cell) → Fit a cs → WindowsPass a 0 cs → rows m (grown_plan a cs) ≡ rows m cs
  grow_keeps cs fit win = sym (nears_same grow_first (rows m cs) (rows m (grown a grow_first cs)) refl (keeps_all cs grow_first 0 fit win (inl refl) (λ e. absurd (false≢true e))))
