-- Two inverse lists of numbers, with two places swapped.
use Rattle.std.proofs.Common.{◌≡◌, ◌≢◌, refl, sym, ap, ◌∙◌, subst, ℕ, ◌<◌, ◌≤◌, List, length}
use Rattle.std.specs.List.{swap}
use Rattle.std.proofs.lemmas.List.Edits.{swapped_from_swap, length-swap}
use Rattle.state_pool.specs.Numbers.{number_at, AreNumbers, AreInverse}
use Rattle.state_pool.proofs.Cases.{cases_eq}

-- as functions: f' is f with i and j swapped, and g' is g with f i and f j swapped
swapped_back : (f g f' g' : ℕ → ℕ) (i j x : ℕ) → f' i ≡ f j → f' j ≡ f i → (x ≢ i → x ≢ j → f' x ≡ f x)
    → g' (f i) ≡ g (f j) → g' (f j) ≡ g (f i) → ((y : ℕ) → y ≢ f i → y ≢ f j → g' y ≡ g y)
    → g (f i) ≡ i → g (f j) ≡ j → g (f x) ≡ x → g' (f' x) ≡ x
swapped_back f g f' g' i j x fi fj fx gi gj gy bi bj bx =
    cases_eq x i (g' (f' x) ≡ x) (λ e. ap (λ n. g' (f' n)) e ∙ ap g' fi ∙ gj ∙ bi ∙ sym e)
    (λ ni. cases_eq x j (g' (f' x) ≡ x) (λ e. ap (λ n. g' (f' n)) e ∙ ap g' fj ∙ gi ∙ bj ∙ sym e)
    (λ nj. ap g' (fx ni nj)
    ∙ gy (f x) (λ e. ni (sym bx ∙ ap g e ∙ bi)) (λ e. nj (sym bx ∙ ap g e ∙ bj)) ∙ bx))

-- a property of each value of f holds of each of f'
swapped_low : (f f' : ℕ → ℕ) (i j x n : ℕ) → f' i ≡ f j → f' j ≡ f i → (x ≢ i → x ≢ j → f' x ≡ f x) → f i < n → f j < n → f x < n → f' x < n
swapped_low f f' i j x n fi fj fx li lj lx =
    cases_eq x i (f' x < n) (λ e. subst (λ y. y < n) (sym (ap f' e ∙ fi)) lj)
    (λ ni. cases_eq x j (f' x < n) (λ e. subst (λ y. y < n) (sym (ap f' e ∙ fj)) li) (λ nj. subst (λ y. y < n) (sym (fx ni nj)) lx))

pub inverse_swapped : (ns ps : List ℕ) (i j : ℕ) → AreInverse ns ps → i < length ns → j < length ns
    → AreInverse (swap ns i j) (swap ps (number_at ns i) (number_at ns j))
inverse_swapped ns ps i j a li lj =
    let n = length ns in
    let a' = number_at ns i in
    let b' = number_at ns j in
    let la : a' < length ps = subst (λ m. a' < m) (sym a.count) (a.low i li) in
    let lb : b' < length ps = subst (λ m. b' < m) (sym a.count) (a.low j lj) in
    let s = swapped_from_swap ns (swap ns i j) i j 0 li lj refl in
    let t = swapped_from_swap ps (swap ps a' b') a' b' 0 la lb refl in
    let long : length (swap ns i j) ≡ n = length-swap ns i j in
    record {
      count = length-swap ps a' b' ∙ a.count ∙ sym long;
      few = subst (λ m. m ≤ 4294967295) (sym long) a.few;
      low = λ x l. subst (λ m. number_at (swap ns i j) x < m) (sym long)
          (swapped_low (number_at ns) (number_at (swap ns i j)) i j x n s.0 s.1 (s.2 x) (a.low i li) (a.low j lj) (a.low x (subst (λ m. x < m) long l)));
      back = λ x l.
          swapped_back (number_at ns) (number_at ps) (number_at (swap ns i j)) (number_at (swap ps a' b')) i j x s.0 s.1 (s.2 x) t.0 t.1 t.2
          (a.back i li) (a.back j lj) (a.back x (subst (λ m. x < m) long l));
      place_low = λ y l. subst (λ m. number_at (swap ps a' b') y < m) (sym long)
          (swapped_low (number_at ps) (number_at (swap ps a' b')) a' b' y n t.0 t.1 (t.2 y) (a.place_low a' (a.low i li)) (a.place_low b' (a.low j lj))
          (a.place_low y (subst (λ m. y < m) long l)));
      forth = λ y l.
          let fi : number_at (swap ns i j) (number_at ps a') ≡ number_at ns (number_at ps b') =
          ap (number_at (swap ns i j)) (a.back i li) ∙ s.0 ∙ ap (number_at ns) (sym (a.back j lj)) in
          let fj : number_at (swap ns i j) (number_at ps b') ≡ number_at ns (number_at ps a') =
          ap (number_at (swap ns i j)) (a.back j lj) ∙ s.1 ∙ ap (number_at ns) (sym (a.back i li)) in
          swapped_back (number_at ps) (number_at ns) (number_at (swap ps a' b')) (number_at (swap ns i j)) a' b' y t.0 t.1 (t.2 y) fi fj
          (λ x ni nj. s.2 x (λ e. ni (e ∙ sym (a.back i li))) (λ e. nj (e ∙ sym (a.back j lj))))
          (a.forth a' (a.low i li)) (a.forth b' (a.low j lj)) (a.forth y (subst (λ m. y < m) long l));
    }

-- each number is then at one place
pub numbers_of : (ns ps : List ℕ) → AreInverse ns ps → AreNumbers ns
numbers_of ns ps a = record {
  low = a.low;
  once = λ i j li lj same. sym (a.back i li) ∙ ap (number_at ps) same ∙ a.back j lj;
  few = a.few;
}
