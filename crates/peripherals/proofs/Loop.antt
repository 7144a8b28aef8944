-- One more line of a setup.
use Rattle.std.proofs.Common.{ℕ, ◌+◌, ◌-◌, ◌≡◌, List, [], ◌∷◌, ◌++◌, refl, ap, sym, ◌∙◌, Option, Some, None, Result, Ok, Err, append_assoc}
use Rattle.std.proofs.lemmas.List.{append-nil}
use Rattle.line_reading.proofs.AllLaws.{ok_is}
use Rattle.peripherals.proofs.Exact.{malformed_ok}
use Rattle.text_base.specs.Lines.{TextLine, Position, size_of}
use Rattle.line_reading.specs.Reading.{first_by, line_by, taken}
use Rattle.avr_model.specs.declared.device.Device.{Device}
use Rattle.peripherals.specs.declared.peripherals.Source.{Source}
use Rattle.peripherals.specs.declared.peripherals.PeripheralsFault.{PeripheralsFault}
use Rattle.peripherals.specs.declared.peripherals.PeripheralsFault.TheVariants.{Malformed}
use Rattle.peripherals.specs.Reading.{part_by, sources_from, with_front, with_part, malformed}

with_front-twice : (xs ys : List Source) (d : Result (List Source × Position) Position) → with_front xs (with_front ys d) ≡ with_front (xs ++ ys) d
with_front-twice xs ys (Ok x) = ap (λ zs. Ok (zs, x.1)) (sym (append_assoc xs ys x.0))
with_front-twice xs ys (Err q) = refl

ok_part : (o p : Option Source) (here q : Position) → ◌≡◌ {A = Result (Option Source × Position) Position} (Ok (o, here)) (Ok (p, q)) → (o ≡ p) × (here ≡ q)
ok_part o p here q e =
    let pair = ok_is {A = Option Source × Position} (o, here) (p, q) e in
    (ap (λ (z : Option Source × Position). z.0) pair, ap (λ (z : Option Source × Position). z.1) pair)

module _ (device : Device) where
  rest_from : ℕ → Position → Result (List Source × Position) Position
  rest_from left q = sources_from device (left - 1) q.at q.rest

  source_part : (left : ℕ) (d : Option (Option Source)) (here next : Position) (s : Source) (q : Position) → taken d here next ≡ Ok (Some s, q)
      → with_part d here next (λ x. rest_from left next) ≡ with_front (s ∷ []) (rest_from left q)
  source_part left (Some (Some t)) here next s q e = let p = ok_part (Some t) (Some s) next q e in let same : t ≡ s = let some = p.0 in cc in rw (same, p.1) refl
  source_part left (Some None) here next s q e = let p = ok_part None (Some s) next q e in let bad = p.0 in cc
  source_part left None here next s q e = cc

  end_part : (left : ℕ) (d : Option (Option Source)) (here next q : Position) → taken d here next ≡ Ok (None, q)
      → with_part d here next (λ x. rest_from left next) ≡ Ok ([], q)
  end_part left (Some (Some t)) here next q e = let p = ok_part (Some t) None next q e in let bad = p.0 in cc
  end_part left (Some None) here next q e = let p = ok_part None None next q e in rw p.1 refl
  end_part left None here next q e = cc

  no_part : (left : ℕ) (d : Option (Option Source)) (here next q : Position) → taken d here next ≡ Err q
      → with_part d here next (λ x. rest_from left next) ≡ Err q
  no_part left (Some o) here next q e = cc
  no_part left None here next q e = let same : here ≡ q = cc in rw same refl

  one_more : (left at : ℕ) (ls : List TextLine) (s : Source) (q : Position) → line_by (part_by device left) (record { at = at; rest = ls }) ≡ Ok (Some s, q)
      → sources_from device left at ls ≡ with_front (s ∷ []) (rest_from left q)
  unfolding sources_from line_by rest_from
  one_more left at [] s q e = cc
  one_more left at (l ∷ ls) s q e = source_part left (first_by (part_by device left) (l ∷ ls)) (record { at = at; rest = l ∷ ls }) (record { at = at + size_of l; rest = ls }) s q e

  no_more : (left at : ℕ) (ls : List TextLine) (q : Position) → line_by (part_by device left) (record { at = at; rest = ls }) ≡ Ok (None, q)
      → sources_from device left at ls ≡ Ok ([], q)
  unfolding sources_from line_by rest_from
  no_more left at [] q e = cc
  no_more left at (l ∷ ls) q e = end_part left (first_by (part_by device left) (l ∷ ls)) (record { at = at; rest = l ∷ ls }) (record { at = at + size_of l; rest = ls }) q e

  no_line : (left at : ℕ) (ls : List TextLine) (q : Position) → line_by (part_by device left) (record { at = at; rest = ls }) ≡ Err q
      → sources_from device left at ls ≡ Err q
  unfolding sources_from line_by rest_from
  no_line left at [] q e = let same : record { at = at; rest = [] } ≡ q = cc in rw same refl
  no_line left at (l ∷ ls) q e = no_part left (first_by (part_by device left) (l ∷ ls)) (record { at = at; rest = l ∷ ls }) (record { at = at + size_of l; rest = ls }) q e

  malformed_err : {A : Type 0} (d : Result A Position) (e : PeripheralsFault) → malformed d ≡ Err e → (q : Position) × (d ≡ Err q) × (Malformed q.at ≡ e)
  malformed_err (Ok y) e is = cc
  malformed_err (Err q) e is = (q, refl, cc)

  -- what was read, and the rest
  pub front_step : (left : ℕ) (p : Position) (s : Source) (q : Position) (front : List Source) (all : Result (List Source × Position) Position)
      → with_front front (sources_from device left p.at p.rest) ≡ all → malformed (line_by (part_by device left) p) ≡ Ok (Some s, q)
      → with_front (front ++ s ∷ []) (sources_from device (left - 1) q.at q.rest) ≡ all
  unfolding rest_from
  front_step left p s q front all e is =
      sym (with_front-twice front (s ∷ []) (rest_from left q)) ∙ ap (with_front front) (sym (one_more left p.at p.rest s q (malformed_ok (line_by (part_by device left) p) (Some s, q) is))) ∙ e

  pub front_end : (left : ℕ) (p q : Position) (front : List Source) (all : Result (List Source × Position) Position)
      → with_front front (sources_from device left p.at p.rest) ≡ all → malformed (line_by (part_by device left) p) ≡ Ok (None, q) → malformed all ≡ Ok (front, q)
  front_end left p q front all e is =
      ap malformed (sym e ∙ ap (with_front front) (no_more left p.at p.rest q (malformed_ok (line_by (part_by device left) p) (None, q) is)) ∙ ap (λ zs. Ok (zs, q)) (append-nil front))

  pub front_fault : (left : ℕ) (p : Position) (f : PeripheralsFault) (front : List Source) (all : Result (List Source × Position) Position)
      → with_front front (sources_from device left p.at p.rest) ≡ all → malformed (line_by (part_by device left) p) ≡ Err f → malformed all ≡ Err f
  front_fault left p f front all e is =
      let q = malformed_err (line_by (part_by device left) p) f is in
      ap malformed (sym e ∙ ap (with_front front) (no_line left p.at p.rest q.0 q.1)) ∙ ap (λ (x : PeripheralsFault). Err x) q.2
