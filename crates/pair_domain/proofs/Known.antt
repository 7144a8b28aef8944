-- Facts with pairs followed and without.
use Rattle.std.proofs.Common.{◌≡◌, refl, sym, ap, subst, ℕ, ◌+◌, ◌<◌, ◌≤◌, ◌⊎◌, inl, inr, ⊎_elim, Bool, List, Option, Some, None, arith}
use Rattle.pair_domain.specs.declared.facts.PairFacts.{PairFacts}
use Rattle.pair_domain.specs.declared.tags.SumTag.{SumTag}
use Rattle.pair_domain.specs.declared.tags.SumTag.TheVariants as sum
use Rattle.pair_domain.specs.Tags.{IsNear, sum_join}
use Rattle.std.specs.Prelude.{◌&&◌}
use Rattle.pair_domain.specs.Facts.{is_followed, HasSixteen, IsKnownNear, KnownHolds, IsKnownWithin, known_join}
use Rattle.pair_domain.specs.Rank.{SumFits, KnownFits, facts_height, known_rank}
use Rattle.pair_domain.specs.Laws.{KnownIsOrdered}
use Rattle.pair_domain.proofs.Ordered.{sums_are_ordered}
use Rattle.pair_domain.proofs.Whole.{facts_are_ordered, facts_say_less, count_joined}
use Rattle.pair_domain.proofs.Rank.{facts_rise}

same : (x : Option PairFacts) → IsKnownWithin x x
same None = tt
same (Some f) = facts_are_ordered.same f

through : (x y w : Option PairFacts) → IsKnownWithin x y → IsKnownWithin y w → IsKnownWithin x w
through x y None a b = tt
through x None (Some h) a b = absurd b
through None (Some g) (Some h) a b = absurd a
through (Some f) (Some g) (Some h) a b = facts_are_ordered.through f g h a b

both : (x y : Option PairFacts) → HasSixteen x → HasSixteen y → IsKnownNear x → IsKnownNear y → IsKnownWithin x y → IsKnownWithin y x → x ≡ y
both None None m n near near' a b = refl
both None (Some g) m n near near' a b = absurd a
both (Some f) None m n near near' a b = absurd b
both (Some f) (Some g) m n near near' a b = ap (λ (h : PairFacts). Some h) (facts_are_ordered.both f g m n near near' a b)

first : (x y : Option PairFacts) → HasSixteen x → HasSixteen y → IsKnownWithin x (known_join x y)
first None y m n = tt
first (Some f) None m n = tt
first (Some f) (Some g) m n = (facts_are_ordered.join f g m n).first

second : (x y : Option PairFacts) → HasSixteen x → HasSixteen y → IsKnownWithin y (known_join x y)
second None y m n = tt
second (Some f) None m n = tt
second (Some f) (Some g) m n = (facts_are_ordered.join f g m n).second

least : (x y w : Option PairFacts) → HasSixteen x → HasSixteen y → IsKnownWithin x w → IsKnownWithin y w → IsKnownWithin (known_join x y) w
least x y None m n a b = tt
least None y (Some h) m n a b = absurd a
least (Some f) None (Some h) m n a b = absurd b
least (Some f) (Some g) (Some h) m n a b = (facts_are_ordered.join f g m n).least h a b

within : (x y : Option PairFacts) → HasSixteen x → HasSixteen y → IsKnownNear x → IsKnownWithin y x → known_join x y ≡ x
within None y m n near le = refl
within (Some f) None m n near le = absurd le
within (Some f) (Some g) m n near le = ap (λ (h : PairFacts). Some h) (facts_are_ordered.within f g m n near le)

-- a join of sum tags is kept
pub near_joined : (t u v : SumTag) → v ≡ sum_join t u → IsNear v
near_joined t u v e = subst IsNear (sym e) (sums_are_ordered.near t u)

near : (x y : Option PairFacts) → IsKnownNear (known_join x y)
near None y = tt
near (Some f) None = tt
near (Some f) (Some g) = sums_are_ordered.near f.sum g.sum

sixteen : (x y : Option PairFacts) → HasSixteen x → HasSixteen y → HasSixteen (known_join x y)
sixteen None y m n = tt
sixteen (Some f) None m n = tt
sixteen (Some f) (Some g) m n = count_joined f g m n

less : (x y : Option PairFacts) (registers : List ℕ) (c z s : Bool) → IsKnownWithin x y → KnownHolds x registers c z s → KnownHolds y registers c z s
less x None registers c z s le h = tt
less None (Some g) registers c z s le h = absurd le
less (Some f) (Some g) registers c z s le h = facts_say_less.facts f g registers c z s le h

rises : (x y : Option PairFacts) → KnownFits x → KnownFits y → IsKnownWithin x y → (x ≡ y) ⊎ (known_rank x < known_rank y)
rises None None a b le = inl refl
rises None (Some g) a b le = absurd le
rises (Some f) None a b le = inr (omega (arith, facts_rise.high f a))
rises (Some f) (Some g) a b le = ⊎_elim (λ e. inl (ap (λ (h : PairFacts). Some h) e)) (λ lt. inr lt) (facts_rise.rises f g a b le)

high : (x : Option PairFacts) → KnownFits x → known_rank x ≤ facts_height + 1
high None a = omega arith
high (Some f) a = omega (arith, facts_rise.high f a)

joins_fit : (x y : Option PairFacts) → KnownFits x → KnownFits y → KnownFits (known_join x y)
joins_fit None y a b = tt
joins_fit (Some f) None a b = tt
joins_fit (Some f) (Some g) a b = facts_rise.joins_fit f g a b

count : (x : Option PairFacts) → KnownFits x → HasSixteen x
count None a = tt
count (Some f) a = a.count

sum_kept : (t : SumTag) → SumFits t → IsNear t
sum_kept sum.None h = tt
sum_kept (sum.Up r a b) h = h.near
sum_kept (sum.Down r a b) h = h.near

kept : (x : Option PairFacts) → KnownFits x → IsKnownNear x
kept None a = tt
kept (Some f) a = sum_kept f.sum a.sum

followed : (x y : Option PairFacts) → is_followed (known_join x y) ≡ (is_followed x && is_followed y)
followed None y = refl
followed (Some f) None = refl
followed (Some f) (Some g) = refl

pub known_is_ordered : KnownIsOrdered
known_is_ordered = record {
  same = same;
  through = through;
  both = both;
  first = first;
  second = second;
  least = least;
  within = within;
  sixteen = sixteen;
  less = less;
  rises = rises;
  high = high;
  joins_fit = joins_fit;
  near = near;
  count = count;
  kept = kept;
  followed = followed;
}
