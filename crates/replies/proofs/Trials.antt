-- The result of the trials is unique: the first that succeeds, with its one schedule.
use Rattle.std.specs.Bool.{⊤}
use Rattle.std.proofs.Common.{◌≡◌, ◌≢◌, ◌≤◌, ◌-◌, ◌==◌, ◌&&◌, not, ℕ, zero, suc, Bool, true, List, [], ◌∷◌, ◌++◌, replicate, Contains, Option, Some, None, refl, sym, ap, ◌∙◌, subst, arith}
use Rattle.std.proofs.lemmas.Bool.Decides.{nat_tests}
use Rattle.std.proofs.lemmas.List.Elements.{Contains-append_right}
use Rattle.basics.specs.Items.{first_in, further_in}
use Rattle.avr_model.specs.declared.choice.Choice.{Choice}
use Rattle.avr_model.specs.declared.choice.Choice.TheVariants as choice
use Rattle.avr_model.specs.declared.device.Device.{Device}
use Rattle.avr_model.specs.Devices.{device_of}
use Rattle.witness_replay.specs.declared.schedule.Run.{Run}
use Rattle.witness_replay.specs.declared.schedule.Run.TheVariants.{Go, Take}
use Rattle.witness_replay.specs.Spelling.{Plan, AreRuns, most_choices, choices_of}
use Rattle.witness_search.specs.declared.waypoint.Waypoint.{Waypoint}
use Rattle.witness_search.specs.Trials.{fills, trial_of, Succeeds, NoneSucceeds, IsFirstFilled, IsFound}
use Rattle.local_rules.specs.Site.{Task}

-- ---- the choices of a schedule determine its runs

-- the list does not begin with this choice
abbrev BeginsOtherwise : Choice → List Choice → Type 0
BeginsOtherwise x [] = ⊤
BeginsOtherwise x (a ∷ xs) = a ≢ x

tails : (a b : Choice) (xs ys : List Choice) → ◌≡◌ {A = List Choice} (a ∷ xs) (b ∷ ys) → xs ≡ ys
tails a b xs ys e = cc

heads : (a b : Choice) (xs ys : List Choice) → ◌≡◌ {A = List Choice} (a ∷ xs) (b ∷ ys) → a ≡ b
heads a b xs ys e = cc

behind_head : (x : Choice) (xs ys : List Choice) → xs ≡ x ∷ ys → BeginsOtherwise x xs → ⊥
behind_head x [] ys e h = let wrong = e in cc
behind_head x (a ∷ xs) ys e h = h (heads a x xs ys e)

same_counts : (n m : ℕ) (x : Choice) (xs ys : List Choice) → replicate n x ++ xs ≡ replicate m x ++ ys → BeginsOtherwise x xs → BeginsOtherwise x ys → (n ≡ m) × (xs ≡ ys)
same_counts zero zero x xs ys e h k = (refl, e)
same_counts zero (suc m) x xs ys e h k = absurd (behind_head x xs (replicate m x ++ ys) e h)
same_counts (suc n) zero x xs ys e h k = absurd (behind_head x ys (replicate n x ++ xs) (sym e) k)
same_counts (suc n) (suc m) x xs ys e h k =
    let r = same_counts n m x xs ys (tails x x (replicate n x ++ xs) (replicate m x ++ ys) e) h k in (ap suc r.0, r.1)

no_count : {A : Type 0} → 1 ≤ 0 → A
no_count h = absurd (let wrong : 1 ≤ 0 = h in omega arith)

first_bytes : (a b c d : ℕ) → choice.Go a b ≡ choice.Go c d → a ≡ c
first_bytes a b c d e = cc

second_bytes : (a b c d : ℕ) → choice.Go a b ≡ choice.Go c d → b ≡ d
second_bytes a b c d e = cc

differ : (a b c d : ℕ) → not ((a == c) && (b == d)) ≡ true → choice.Go c d ≢ choice.Go a b
differ a b c d f e = let x : c ≡ a = first_bytes c d a b e in let y : d ≡ b = second_bytes c d a b e in grind (arith, nat_tests)

take_go : (v a b : ℕ) (clears : Bool) → choice.Take v clears ≢ choice.Go a b
take_go v a b clears e = cc

next_behind : (device : Device) (n a b left : ℕ) (rs : List Run) → AreRuns device (Some (Go n a b)) left rs → BeginsOtherwise (choice.Go a b) (choices_of rs)
next_behind device n a b left [] h = tt
next_behind device n a b left (Go zero c d ∷ rs) h = no_count h.0.0
next_behind device n a b left (Go (suc k) c d ∷ rs) h = differ a b c d h.1
next_behind device n a b left (Take v clears ∷ rs) h = take_go v a b clears

no_choice : (x : Choice) (xs : List Choice) → ◌≡◌ {A = List Choice} [] (x ∷ xs) → ⊥
no_choice x xs e = cc

go_same : (n m a b c d : ℕ) (rs qs : List Run) → n ≡ m → a ≡ c → b ≡ d → rs ≡ qs → ◌≡◌ {A = List Run} (Go (suc n) a b ∷ rs) (Go (suc m) c d ∷ qs)
go_same n m a b c d rs qs e f g h = cc

take_same : (v w : ℕ) (x y : Bool) (rs qs : List Run) → choice.Take v x ≡ choice.Take w y → rs ≡ qs → ◌≡◌ {A = List Run} (Take v x ∷ rs) (Take w y ∷ qs)
take_same v w x y rs qs e h = cc

pub same_runs : (device : Device) (before last : Option Run) (left most : ℕ) (rs qs : List Run) → AreRuns device before left rs → AreRuns device last most qs → choices_of rs ≡ choices_of qs → rs ≡ qs
same_runs device before last left most [] [] h k e = refl
same_runs device before last left most [] (Go zero a b ∷ qs) h k e = no_count k.0.0
same_runs device before last left most [] (Go (suc n) a b ∷ qs) h k e = absurd (no_choice (choice.Go a b) _ e)
same_runs device before last left most [] (Take v x ∷ qs) h k e = absurd (no_choice (choice.Take v x) _ e)
same_runs device before last left most (Go zero a b ∷ rs) qs h k e = no_count h.0.0
same_runs device before last left most (Go (suc n) a b ∷ rs) [] h k e = absurd (no_choice (choice.Go a b) _ (sym e))
same_runs device before last left most (Go (suc n) a b ∷ rs) (Go zero c d ∷ qs) h k e = no_count k.0.0
same_runs device before last left most (Go (suc n) a b ∷ rs) (Go (suc m) c d ∷ qs) h k e =
    let top : choice.Go a b ≡ choice.Go c d = heads (choice.Go a b) (choice.Go c d) (replicate n (choice.Go a b) ++ choices_of rs) (replicate m (choice.Go c d) ++ choices_of qs) e in
    let rest : replicate n (choice.Go a b) ++ choices_of rs ≡ replicate m (choice.Go c d) ++ choices_of qs = tails (choice.Go a b) (choice.Go c d) _ _ e in
    let behind : BeginsOtherwise (choice.Go a b) (choices_of qs) = subst (λ x. BeginsOtherwise x (choices_of qs)) (sym top) (next_behind device (suc m) c d _ qs k.3) in
    let counts = same_counts n m (choice.Go a b) (choices_of rs) (choices_of qs) (rest ∙ ap (λ x. replicate m x ++ choices_of qs) (sym top)) (next_behind device (suc n) a b _ rs h.3) behind in
    go_same n m a b c d rs qs counts.0 (first_bytes a b c d top) (second_bytes a b c d top) (same_runs device (Some (Go (suc n) a b)) (Some (Go (suc m) c d)) (left - suc n) (most - suc m) rs qs h.3 k.3 counts.1)
same_runs device before last left most (Go (suc n) a b ∷ rs) (Take v x ∷ qs) h k e = absurd (take_go v a b x (sym (heads (choice.Go a b) (choice.Take v x) _ _ e)))
same_runs device before last left most (Take v x ∷ rs) [] h k e = absurd (no_choice (choice.Take v x) _ (sym e))
same_runs device before last left most (Take v x ∷ rs) (Go zero a b ∷ qs) h k e = no_count k.0.0
same_runs device before last left most (Take v x ∷ rs) (Go (suc m) a b ∷ qs) h k e = absurd (take_go v a b x (heads (choice.Take v x) (choice.Go a b) _ _ e))
same_runs device before last left most (Take v x ∷ rs) (Take w y ∷ qs) h k e =
    take_same v w x y rs qs (heads (choice.Take v x) (choice.Take w y) _ _ e) (same_runs device (Some (Take v x)) (Some (Take w y)) (left - 1) (most - 1) rs qs h.3 k.3 (tails (choice.Take v x) (choice.Take w y) _ _ e))

pub same_plan : (a b : Plan) → a.fill ≡ b.fill → a.runs ≡ b.runs → a ≡ b
same_plan a b e f = ap (λ x. record { fill = x; runs = a.runs }) e ∙ ap (λ x. record { fill = b.fill; runs = x }) f

-- ---- the first that succeeds

num_heads : (a b : ℕ) (xs ys : List ℕ) → ◌≡◌ {A = List ℕ} (a ∷ xs) (b ∷ ys) → a ≡ b
num_heads a b xs ys e = cc

num_tails : (a b : ℕ) (xs ys : List ℕ) → ◌≡◌ {A = List ℕ} (a ∷ xs) (b ∷ ys) → xs ≡ ys
num_tails a b xs ys e = cc

module _ (task : Task) (points : List Waypoint) (bound : ℕ) where
  abbrev Works : ℕ → Type 0
  Works fill = Succeeds task points bound fill

  abbrev Fail : List ℕ → Type 0
  Fail ts = NoneSucceeds task points bound ts

  fill_one : (before after before' after' : List ℕ) (f g : ℕ) → before ++ f ∷ after ≡ before' ++ g ∷ after' → Fail before → Fail before' → Works f → Works g → f ≡ g
  fill_one [] after [] after' f g e h k x y = num_heads f g after after' e
  fill_one [] after (b ∷ bs) after' f g e h k x y = absurd (k b (first_in b bs) (subst Works (num_heads f b after (bs ++ g ∷ after') e) x))
  fill_one (b ∷ bs) after [] after' f g e h k x y = absurd (h b (first_in b bs) (subst Works (sym (num_heads b g (bs ++ f ∷ after) after' e)) y))
  fill_one (b ∷ bs) after (c ∷ cs) after' f g e h k x y =
      fill_one bs after cs after' f g (num_tails b c (bs ++ f ∷ after) (cs ++ g ∷ after') e) (λ t i. h t (further_in b t bs i)) (λ t i. k t (further_in c t cs i)) x y

  in_fills : (plan : Plan) → IsFirstFilled task points bound plan → Contains fills plan.fill
  in_fills plan h = subst (λ ts. Contains ts plan.fill) (sym h.order) (Contains-append_right h.before (plan.fill ∷ h.after) plan.fill (first_in plan.fill h.after))

  first_one : (a b : Plan) → IsFirstFilled task points bound a → IsFirstFilled task points bound b → a ≡ b
  first_one a b h k =
      let fill : a.fill ≡ b.fill = fill_one h.before h.after k.before k.after a.fill b.fill (sym h.order ∙ k.order) h.failed k.failed h.succeeds k.succeeds in
      let choices : choices_of a.runs ≡ choices_of b.runs = h.trial.choices ∙ (ap (trial_of task points bound) fill ∙ sym k.trial.choices) in
      same_plan a b fill (same_runs (device_of task.flash) None None most_choices most_choices a.runs b.runs h.trial.fits.runs_fit k.trial.fits.runs_fit choices)

  pub found_one : (p q : Option Plan) → IsFound task points bound p → IsFound task points bound q → p ≡ q
  found_one None None h k = refl
  found_one None (Some b) h k = absurd (h b.fill (in_fills b k) k.succeeds)
  found_one (Some a) None h k = absurd (k a.fill (in_fills a h) h.succeeds)
  found_one (Some a) (Some b) h k = ap Some (first_one a b h k)
