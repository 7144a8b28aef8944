use Rattle.std.proofs.Common.{◌≡◌, ◌<◌, sym, ap, ◌∙◌, subst, ℕ, List, length}
use Rattle.std.specs.List.{swap}
use Rattle.state_pool.specs.Numbers.{number_at, AreInverse}
use Rattle.state_pool.proofs.Swaps.{inverse_swapped, numbers_of}
use Rattle.state_pool.proofs.numbers.Numbers.swap.Goals as goal

pub invariant_of-self : goal.invariant_of-self
invariant_of-self c =
    let ns = c.self.inside.numbers.items in
    let ps = c.self.inside.places.items in
    let i = c.args.place in
    let j = c.args.other in
    let a : c.number-number.result ≡ number_at ns i = c.number-number.ensures ∙ ap (λ (l : List ℕ). number_at l i) (sym c.self.view_is) in
    let b : c.number-next.result ≡ number_at ns j = c.number-next.ensures ∙ ap (λ (l : List ℕ). number_at l j) (sym c.self.view_is) in
    let places : c.swap-2.new.self.items ≡ swap ps (number_at ns i) (number_at ns j) = c.swap-2.ensures.items ∙ ap (λ n. swap ps n c.number-next.result) a ∙ ap (swap ps (number_at ns i)) b in
    subst (λ (qs : List ℕ). AreInverse c.swap.new.self.items qs) (sym places)
    (subst (λ (ms : List ℕ). AreInverse ms (swap ps (number_at ns i) (number_at ns j))) (sym c.swap.ensures.items) (inverse_swapped ns ps i j c.self.invariant (subst (λ (l : List ℕ). i < length l) (sym c.self.view_is) c.requires.0) (subst (λ (l : List ℕ). j < length l) (sym c.self.view_is) c.requires.1)))

pub returns-clause-once : goal.returns-clause-once
returns-clause-once c = numbers_of c.swap.new.self.items c.swap-2.new.self.items (invariant_of-self c)
