-- Facts on booleans and on the answers of comparisons, beside those of std.
use Rattle.std.proofs.Common.{◌≡◌, refl, sym, subst, Bool, true, false, not, ◌&&◌, ◌||◌, T, Ordering, Less, Equal, Greater, is_lt, arith}

pub left_of_and : (a b : Bool) → (a && b) ≡ true → a ≡ true
left_of_and a b e = grind arith

pub right_of_and : (a b : Bool) → (a && b) ≡ true → b ≡ true
right_of_and true b e = e
right_of_and false b e = cc

pub last_of_three : (a b c : Bool) → (a && b && c) ≡ true → c ≡ true
last_of_three true true c h = h
last_of_three true false c h = cc
last_of_three false b c h = cc

pub last_of_four : (a b c d : Bool) → (a && b && c && d) ≡ true → d ≡ true
last_of_four true true true d h = h
last_of_four true true false d h = cc
last_of_four true false c d h = cc
last_of_four false b c d h = cc

pub all_three : (a b c : Bool) → a ≡ true → b ≡ true → c ≡ true → ((a && b) && c) ≡ true
all_three a b c h g k = grind arith

pub and_not : (a b : Bool) → a ≡ true → b ≡ false → (a && not b) ≡ true
and_not a b h g = grind arith

pub or_with_false : (b : Bool) → (b || false) ≡ b
or_with_false true = refl
or_with_false false = refl

pub or_with_true : (b : Bool) → (b || true) ≡ true
or_with_true true = refl
or_with_true false = refl

pub and_with_false : (b : Bool) → (b && false) ≡ false
and_with_false true = refl
and_with_false false = refl

pub never_both : (b : Bool) → b ≡ true → b ≡ false → ⊥
never_both b e h = cc

pub not_from_never : (b : Bool) → (b ≡ true → ⊥) → not b ≡ true
not_from_never true h = absurd (h refl)
not_from_never false h = refl

-- ---- tests as statements

pub join_tests : (a b : Bool) → T a → T b → T (a && b)
join_tests true b p q = q
join_tests false b p q = p

pub split_tests : (a b : Bool) → T (a && b) → T a × T b
split_tests true b p = (tt, p)
split_tests false b p = absurd p

-- ---- what a comparison answers

pub less_by_test : (o : Ordering) → is_lt o ≡ true → o ≡ Less
less_by_test Less e = refl
less_by_test Equal e = cc
less_by_test Greater e = cc

pub less_if_so : (o : Ordering) → T (is_lt o) → o ≡ Less
less_if_so Less p = refl
less_if_so Equal p = absurd p
less_if_so Greater p = absurd p

pub so_if_less : (o : Ordering) → o ≡ Less → T (is_lt o)
so_if_less o e = subst (λ (x : Ordering). T (is_lt x)) (sym e) tt
