-- One more pair.
use Rattle.std.proofs.Common.{ℕ, ◌+◌, ◌*◌, ◌<◌, ◌≤◌, ◌≡◌, List, [], ◌∷◌, ◌++◌, length, take, drop, get_or, refl, ap, ap₂, sym, ◌∙◌, arith, Option, option_map, Some, None, append_assoc}
use Rattle.std.proofs.lemmas.List.{append-nil, drop_more, drop_all, take_all}
use Rattle.line_reading.specs.Reading.{◌>>=◌}
use Rattle.pair_domain.specs.declared.intervals.Interval.{Interval}
use Rattle.pair_words.specs.Spelling.{interval_text, intervals_text}
use Rattle.pair_words.specs.Reading.{interval_at, intervals_at}

-- ---- reading

-- intervals read before these
abbrev pub with_front : List Interval → Option (List Interval × List ℕ) → Option (List Interval × List ℕ)
with_front front found = option_map (λ is. (front ++ is.0, is.1)) found

front_next : (front : List Interval) (i : Interval) (d : Option (List Interval × List ℕ))
    → with_front front (option_map (λ is. (i ∷ is.0, is.1)) d) ≡ with_front (front ++ i ∷ []) d
front_next front i None = refl
front_next front i (Some is) = ap (λ (js : List Interval). Some (js, is.1)) (sym (append_assoc front (i ∷ []) is.0))

read_by : (front : List Interval) (r : ℕ) (hull : Interval) (hulls : List Interval) (bs : List ℕ) (o : Option (Interval × List ℕ)) → interval_at r hull bs ≡ o
    → with_front front (intervals_at r (hull ∷ hulls) bs) ≡ (o >>= λ i. with_front (front ++ i.0 ∷ []) (intervals_at (r + 2) hulls i.1))
unfolding intervals_at
read_by front r hull hulls bs None e = rw e refl
read_by front r hull hulls bs (Some i) e = rw e (front_next front i.0 (intervals_at (r + 2) hulls i.1))

-- the pairs from this one on are it and the later ones
at_pair : (front hulls : List Interval) (n r : ℕ) (hull d : Interval) (bs : List ℕ) (o : Option (Interval × List ℕ)) → n < length hulls → hull ≡ get_or hulls n d → r ≡ 2 * n → o ≡ interval_at r hull bs
    → with_front front (intervals_at (2 * n) (drop n hulls) bs) ≡ (o >>= λ i. with_front (front ++ i.0 ∷ []) (intervals_at (2 * (n + 1)) (drop (n + 1) hulls) i.1))
at_pair front hulls n r hull d bs o lt is number read =
    let next : 2 * n + 2 ≡ 2 * (n + 1) = omega arith in
    let here = ap (λ (h : Interval). h ∷ drop (n + 1) hulls) (sym is) in
    let at : interval_at (2 * n) hull bs ≡ o = ap (λ (m : ℕ). interval_at m hull bs) (sym number) ∙ sym read in
    ap (λ (hs : List Interval). with_front front (intervals_at (2 * n) hs bs)) (drop_more hulls n d lt ∙ here)
    ∙ read_by front (2 * n) hull (drop (n + 1) hulls) bs o at
    ∙ ap (λ (m : ℕ). o >>= λ i. with_front (front ++ i.0 ∷ []) (intervals_at m (drop (n + 1) hulls) i.1)) next

pub interval_more : (front longer hulls : List Interval) (n r : ℕ) (hull i d : Interval) (bs rest : List ℕ) (all : Option (List Interval × List ℕ)) → n < length hulls → hull ≡ get_or hulls n d → r ≡ 2 * n
    → Some (i, rest) ≡ interval_at r hull bs → longer ≡ front ++ i ∷ [] → with_front front (intervals_at (2 * n) (drop n hulls) bs) ≡ all
    → with_front longer (intervals_at (2 * (n + 1)) (drop (n + 1) hulls) rest) ≡ all
interval_more front longer hulls n r hull i d bs rest all lt is number read same before =
    ap (λ (xs : List Interval). with_front xs (intervals_at (2 * (n + 1)) (drop (n + 1) hulls) rest)) same
    ∙ sym (at_pair front hulls n r hull d bs (Some (i, rest)) lt is number read)
    ∙ before

pub no_interval : (front hulls : List Interval) (n r : ℕ) (hull d : Interval) (bs : List ℕ) (all : Option (List Interval × List ℕ)) → n < length hulls → hull ≡ get_or hulls n d → r ≡ 2 * n
    → None ≡ interval_at r hull bs → with_front front (intervals_at (2 * n) (drop n hulls) bs) ≡ all → None ≡ all
no_interval front hulls n r hull d bs all lt is number read before = sym (at_pair front hulls n r hull d bs None lt is number read) ∙ before

none_left : (r : ℕ) (bs : List ℕ) → intervals_at r [] bs ≡ Some ([], bs)
unfolding intervals_at
none_left r bs = refl

pub intervals_end : (is hulls : List Interval) (n : ℕ) (bs : List ℕ) (all : Option (List Interval × List ℕ)) → length hulls ≤ n → length is ≤ n
    → with_front (take n is) (intervals_at (2 * n) (drop n hulls) bs) ≡ all → Some (is, bs) ≡ all
intervals_end is hulls n bs all over long before =
    ap (λ (xs : List Interval). Some (xs, bs)) (sym (append-nil is) ∙ ap (λ (xs : List Interval). xs ++ []) (sym (take_all n is long)))
    ∙ ap (with_front (take n is)) (sym (none_left (2 * n) bs))
    ∙ ap (λ (hs : List Interval). with_front (take n is) (intervals_at (2 * n) hs bs)) (sym (drop_all n hulls over))
    ∙ before

-- ---- writing

text_by : (r : ℕ) (hull i : Interval) (hulls is : List Interval) → intervals_text r (hull ∷ hulls) (i ∷ is) ≡ interval_text r hull i ++ intervals_text (r + 2) hulls is
unfolding intervals_text
text_by r hull i hulls is = refl

pub text_more : (before after all : List ℕ) (hulls is : List Interval) (n r : ℕ) (hull i d e : Interval) → n < length hulls → n < length is → hull ≡ get_or hulls n d → i ≡ get_or is n e → r ≡ 2 * n
    → after ≡ before ++ interval_text r hull i → before ++ intervals_text (2 * n) (drop n hulls) (drop n is) ≡ all
    → after ++ intervals_text (2 * (n + 1)) (drop (n + 1) hulls) (drop (n + 1) is) ≡ all
text_more before after all hulls is n r hull i d e lt less at_hull at_i number appended same =
    let next : 2 * n + 2 ≡ 2 * (n + 1) = omega arith in
    let front = drop_more hulls n d lt ∙ ap (λ (h : Interval). h ∷ drop (n + 1) hulls) (sym at_hull) in
    let other = drop_more is n e less ∙ ap (λ (j : Interval). j ∷ drop (n + 1) is) (sym at_i) in
    let rest = intervals_text (2 * (n + 1)) (drop (n + 1) hulls) (drop (n + 1) is) in
    let whole : intervals_text (2 * n) (drop n hulls) (drop n is) ≡ interval_text r hull i ++ rest =
    ap₂ (λ (hs js : List Interval). intervals_text (2 * n) hs js) front other
    ∙ text_by (2 * n) hull i (drop (n + 1) hulls) (drop (n + 1) is)
    ∙ ap₂ (λ (m k : ℕ). interval_text m hull i ++ intervals_text k (drop (n + 1) hulls) (drop (n + 1) is)) (sym number) next in
    ap (λ (xs : List ℕ). xs ++ rest) appended
    ∙ append_assoc before (interval_text r hull i) rest
    ∙ ap (λ (xs : List ℕ). before ++ xs) (sym whole)
    ∙ same

no_pairs : (r : ℕ) (is : List Interval) → intervals_text r [] is ≡ []
unfolding intervals_text
no_pairs r is = refl

pub text_end : (after all : List ℕ) (hulls is : List Interval) (n : ℕ) → length hulls ≤ n → after ++ intervals_text (2 * n) (drop n hulls) (drop n is) ≡ all → after ≡ all
text_end after all hulls is n over same =
    sym (append-nil after)
    ∙ ap (λ (xs : List ℕ). after ++ xs) (sym (no_pairs (2 * n) (drop n is)) ∙ ap (λ (hs : List Interval). intervals_text (2 * n) hs (drop n is)) (sym (drop_all n hulls over)))
    ∙ same
