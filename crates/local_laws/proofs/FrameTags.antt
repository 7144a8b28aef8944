-- Tags at a site with a `frame` line are those of a node of the analysis, and monotone.
use Rattle.std.proofs.Common.{◌≡◌, refl, sym, subst, ℕ, ◌+◌, ◌-◌, ◌*◌, ◌%◌, ◌<◌, ◌==◌, Bool, true, false, Option, Some, None, arith}
use Rattle.sp_domain.specs.declared.tags.Tag.{Tag}
use Rattle.sp_domain.specs.declared.tags.Tag.TheVariants as tag
use Rattle.sp_domain.specs.declared.tags.CarryTag.{CarryTag}
use Rattle.sp_domain.specs.declared.tags.CarryTag.TheVariants as carry
use Rattle.sp_domain.specs.Tags.{HasByteNumbers, IsTagWithin, IsCarryWithin, high_of, high_moved, byte_more, byte_less, carry_of, high_more}
use Rattle.sp_domain.proofs.AllLaws.{tag_arithmetic_is_monotone}
use Rattle.abs_state.specs.Formed.{CarryNamesRegister, CarryIsUntagged}
use Rattle.node_keys.specs.declared.keys.Kind.{Kind}
use Rattle.local_rules.specs.FrameLines.{more_tag, sum_tag, high_more_tag, less_tag}
use Rattle.local_laws.proofs.MonotoneValues.{IsTagOf, IsSameWhere, none_of, if_tag_of}

-- ---- of a node

pub high_moved_of : (kind : Kind) (t : Tag) (up : Bool) (h : ℕ) → IsTagOf kind t → IsTagOf kind (high_moved t up h)
high_moved_of kind tag.None up h g = none_of kind
high_moved_of kind (tag.Entry r) up h g = none_of kind
high_moved_of kind tag.EntryFlags up h g = none_of kind
high_moved_of kind (tag.SpLo j) up h g = none_of kind
high_moved_of kind (tag.SpHi k) true h g = record { names = tt; fits = omega arith; none = λ root. let e = g.none root in absurd (cc) }
high_moved_of kind (tag.SpHi k) false h g = record { names = tt; fits = omega arith; none = λ root. let e = g.none root in absurd (cc) }

byte_more_of : (kind : Kind) (t : Tag) (n : ℕ) → IsTagOf kind t → IsTagOf kind (byte_more t n)
byte_more_of kind tag.None n g = none_of kind
byte_more_of kind (tag.Entry r) n g = none_of kind
byte_more_of kind tag.EntryFlags n g = none_of kind
byte_more_of kind (tag.SpLo j) n g = record { names = tt; fits = omega arith; none = λ root. let e = g.none root in absurd (cc) }
byte_more_of kind (tag.SpHi k) n g = high_moved_of kind (tag.SpHi k) true n g

byte_less_of : (kind : Kind) (t : Tag) (n : ℕ) → IsTagOf kind t → IsTagOf kind (byte_less t n)
byte_less_of kind tag.None n g = none_of kind
byte_less_of kind (tag.Entry r) n g = none_of kind
byte_less_of kind tag.EntryFlags n g = none_of kind
byte_less_of kind (tag.SpLo j) n g = record { names = tt; fits = omega arith; none = λ root. let e = g.none root in absurd (cc) }
byte_less_of kind (tag.SpHi k) n g = high_moved_of kind (tag.SpHi k) false n g

high_more_of : (kind : Kind) (t : Tag) (n : ℕ) (c : CarryTag) → IsTagOf kind t → IsTagOf kind (high_more t n c)
high_more_of kind tag.None n c g = none_of kind
high_more_of kind (tag.Entry r) n c g = none_of kind
high_more_of kind tag.EntryFlags n c g = none_of kind
high_more_of kind (tag.SpLo j) n c g = none_of kind
high_more_of kind (tag.SpHi k) n carry.None g = none_of kind
high_more_of kind (tag.SpHi k) n (carry.Borrow j l) g = none_of kind
high_more_of kind (tag.SpHi k) n (carry.Less r l) g = none_of kind
high_more_of kind (tag.SpHi k) n (carry.Sum j l) g =
    if_tag_of kind (j == k % 256) (high_of (k + (256 - l) + 256 * (255 - n))) tag.None
    (record { names = tt; fits = omega arith; none = λ root. let e = g.none root in absurd (cc) }) (none_of kind)

pub more_of : (kind : Kind) (t : Tag) (f : Option ℕ) → IsTagOf kind t → IsTagOf kind (more_tag t f)
more_of kind t None g = none_of kind
more_of kind t (Some n) g = byte_more_of kind t n g

pub less_of : (kind : Kind) (t : Tag) (f : Option ℕ) → IsTagOf kind t → IsTagOf kind (less_tag t f)
less_of kind t None g = none_of kind
less_of kind t (Some n) g = byte_less_of kind t n g

pub high_of_sum : (kind : Kind) (t : Tag) (f : Option ℕ) (c : CarryTag) → IsTagOf kind t → IsTagOf kind (high_more_tag t f c)
high_of_sum kind t None c g = none_of kind
high_of_sum kind t (Some n) c g = high_more_of kind t n c g

pub sum_bytes : (kind : Kind) (t : Tag) (f : Option ℕ) → IsTagOf kind t → ((n : ℕ) → f ≡ Some n → n < 256) → HasByteNumbers (sum_tag t f)
sum_bytes kind t None g small = tt
sum_bytes kind tag.None (Some l) g small = tt
sum_bytes kind (tag.Entry r) (Some l) g small = tt
sum_bytes kind tag.EntryFlags (Some l) g small = tt
sum_bytes kind (tag.SpLo j) (Some l) g small = (g.fits, small l refl)
sum_bytes kind (tag.SpHi k) (Some l) g small = tt

pub no_sum : (t : Tag) (f : Option ℕ) → t ≡ tag.None → CarryIsUntagged (sum_tag t f)
no_sum t None e = tt
no_sum t (Some l) e = subst (λ (u : Tag). CarryIsUntagged (carry_of u l)) (sym e) tt

pub sum_names : (t : Tag) (f : Option ℕ) → CarryNamesRegister (sum_tag t f)
sum_names t None = tt
sum_names tag.None (Some l) = tt
sum_names (tag.Entry r) (Some l) = tt
sum_names tag.EntryFlags (Some l) = tt
sum_names (tag.SpLo j) (Some l) = tt
sum_names (tag.SpHi k) (Some l) = tt

-- ---- a greater state says less

pub more_within : (t u : Tag) (f g : Option ℕ) → IsTagWithin t u → IsSameWhere f g → IsTagWithin (more_tag t f) (more_tag u g)
more_within t u f None le tells = tt
more_within t u f (Some n) le tells =
    subst (λ (x : Option ℕ). IsTagWithin (more_tag t x) (more_tag u (Some n))) (sym (tells n refl)) (tag_arithmetic_is_monotone.byte_more t u n le)

pub less_within : (t u : Tag) (f g : Option ℕ) → IsTagWithin t u → IsSameWhere f g → IsTagWithin (less_tag t f) (less_tag u g)
less_within t u f None le tells = tt
less_within t u f (Some n) le tells =
    subst (λ (x : Option ℕ). IsTagWithin (less_tag t x) (less_tag u (Some n))) (sym (tells n refl)) (tag_arithmetic_is_monotone.byte_less t u n le)

pub sum_within : (t u : Tag) (f g : Option ℕ) → IsTagWithin t u → IsSameWhere f g → IsCarryWithin (sum_tag t f) (sum_tag u g)
sum_within t u f None le tells = tt
sum_within t u f (Some n) le tells =
    subst (λ (x : Option ℕ). IsCarryWithin (sum_tag t x) (sum_tag u (Some n))) (sym (tells n refl)) (tag_arithmetic_is_monotone.carry t u n le)

pub high_within : (t u : Tag) (f g : Option ℕ) (c d : CarryTag) → IsTagWithin t u → IsSameWhere f g → IsCarryWithin c d → IsTagWithin (high_more_tag t f c) (high_more_tag u g d)
high_within t u f None c d le tells over = tt
high_within t u f (Some n) c d le tells over =
    subst (λ (x : Option ℕ). IsTagWithin (high_more_tag t x c) (high_more_tag u (Some n) d)) (sym (tells n refl)) (tag_arithmetic_is_monotone.high_more t u n c d le over)
