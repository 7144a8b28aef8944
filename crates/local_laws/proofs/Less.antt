-- The carry tag of a register: it survives writes of other registers, and cuts the register's range at a branch.
use Rattle.std.proofs.Common.{◌≡◌, ◌≢◌, refl, sym, ◌∙◌, ap, subst, ℕ, ◌+◌, ◌-◌, ◌<◌, ◌≤◌, ◌==◌, nat_lt, nat_le, min, max, Bool, true, false, if◌then◌else◌, List, [], ◌∷◌, Option, Some, None, slice_index, slice_set, arith, eq-eqb}
use Rattle.std.specs.Prelude.{⊤}
use Rattle.std.specs.Int.{from_bool}
use Rattle.std.specs.List.{list_any}
use Rattle.std.proofs.lemmas.Bool.{or_parts}
use Rattle.std.proofs.lemmas.Bool.Decides.{nat_tests}
use Rattle.std.proofs.lemmas.Grind.{elements}
use Rattle.avr_model.specs.declared.instruction.Pointer.{Pointer}
use Rattle.avr_model.specs.declared.instruction.Pointer.TheVariants as pointer
use Rattle.avr_model.specs.Sreg.{flag}
use Rattle.avr_model.specs.Written.{moved_pair}
use Rattle.avr_model.specs.State.{State}
use Rattle.avr_model.specs.Effects.{moved}
use Rattle.avr_model.specs.Step.{with_registers}
use Rattle.sp_domain.specs.declared.tags.Tag.{Tag}
use Rattle.sp_domain.specs.declared.tags.Tag.TheVariants as tag
use Rattle.sp_domain.specs.declared.tags.CarryTag.{CarryTag}
use Rattle.sp_domain.specs.declared.tags.CarryTag.TheVariants as carry
use Rattle.sp_domain.specs.Tags.{Origin, CarryHolds, LessHolds, HasByteNumbers, IsCarryWithin}
use Rattle.sp_domain.proofs.AllLaws.{carries_are_ordered}
use Rattle.pair_domain.specs.Rank.{KnownFits}
use Rattle.pair_domain.proofs.AllLaws.{known_is_ordered}
use Rattle.abs_state.specs.declared.values.AbsByte.{AbsByte}
use Rattle.abs_state.specs.declared.state.AbsState.{AbsState}
use Rattle.abs_state.specs.Formed.{CarryNamesRegister, CarryIsUntagged}
use Rattle.abs_state.specs.Stands.{ByteStands}
use Rattle.abs_state.specs.Order.{IsStateWithin}
use Rattle.abs_state.specs.Ended.{is_one_of, ended}
use Rattle.abs_state.proofs.AllLaws.{states_are_ordered, values_say_less, writes_end_facts}
use Rattle.node_keys.specs.declared.keys.NodeKey.{NodeKey}
use Rattle.local_rules.specs.Registers.{borrow_tag, less_than, less_alone, less_kept, forgotten, forgetting}
use Rattle.local_rules.specs.FrameLines.{sum_tag}
use Rattle.local_rules.specs.Flow.{part_of}
use Rattle.local_laws.proofs.Bare.{InBareFrame}

-- ---- registers that it doesn't speak of

-- the carry tag does not name register d
abbrev pub Spares : CarryTag → ℕ → Type 0
Spares carry.None d = ⊤
Spares (carry.Borrow j l) d = ⊤
Spares (carry.Sum j l) d = ⊤
Spares (carry.Less r n) d = r ≢ d

abbrev pub SparesAll : CarryTag → List ℕ → Type 0
SparesAll c [] = ⊤
SparesAll c (d ∷ ds) = Spares c d × SparesAll c ds

-- another register may be set
pub less_set : (registers : List ℕ) (c : CarryTag) (b : Bool) (d x : ℕ) → Spares c d → LessHolds registers c b → LessHolds (slice_set registers d x) c b
less_set registers carry.None b d x spare h = tt
less_set registers (carry.Borrow j l) b d x spare h = tt
less_set registers (carry.Sum j l) b d x spare h = tt
less_set registers (carry.Less r n) b d x spare h =
    let same : slice_index (slice_set registers d x) r ≡ slice_index registers r = grind (arith, elements) in
    h ∙ ap (λ (y : ℕ). nat_lt y n) (sym same)

pub less_two : (registers : List ℕ) (c : CarryTag) (b : Bool) (d e x y : ℕ) → SparesAll c (d ∷ e ∷ []) → LessHolds registers c b
    → LessHolds (slice_set (slice_set registers d x) e y) c b
less_two registers c b d e x y spares h = less_set (slice_set registers d x) c b e y spares.1.0 (less_set registers c b d x spares.0 h)

pub less_moved : (registers : List ℕ) (c : CarryTag) (b : Bool) (p : Pointer) (w : ℕ) → SparesAll c (moved_pair p) → LessHolds registers c b
    → LessHolds (with_registers registers (moved p w)) c b
less_moved registers c b pointer.ZPlus w spares h = less_two registers c b 30 31 _ _ spares h
less_moved registers c b pointer.MinusZ w spares h = less_two registers c b 30 31 _ _ spares h
less_moved registers c b pointer.YPlus w spares h = less_two registers c b 28 29 _ _ spares h
less_moved registers c b pointer.MinusY w spares h = less_two registers c b 28 29 _ _ spares h
less_moved registers c b pointer.X w spares h = h
less_moved registers c b pointer.XPlus w spares h = less_two registers c b 26 27 _ _ spares h
less_moved registers c b pointer.MinusX w spares h = less_two registers c b 26 27 _ _ spares h

-- ---- what is forgotten

-- a property of the tag and of none holds of the remaining tag
pub forgotten_is : (C : CarryTag → Type 0) (written : List ℕ) (c : CarryTag) → C c → C carry.None → C (forgotten written c)
forgotten_is C written carry.None h none = none
forgotten_is C written (carry.Borrow j l) h none = h
forgotten_is C written (carry.Sum j l) h none = h
forgotten_is C written (carry.Less r n) h none = by (list_any (λ d. d == r) written)
  where
    by : (b : Bool) → C (if b then carry.None else carry.Less r n)
    by true = none
    by false = h

none_spares : (ds : List ℕ) → SparesAll carry.None ds
none_spares [] = tt
none_spares (d ∷ ds) = (tt, none_spares ds)

borrow_spares : (j l : ℕ) (ds : List ℕ) → SparesAll (carry.Borrow j l) ds
borrow_spares j l [] = tt
borrow_spares j l (d ∷ ds) = (tt, borrow_spares j l ds)

sum_spares : (j l : ℕ) (ds : List ℕ) → SparesAll (carry.Sum j l) ds
sum_spares j l [] = tt
sum_spares j l (d ∷ ds) = (tt, sum_spares j l ds)

not_among : (r n : ℕ) (ds : List ℕ) → list_any (λ d. d == r) ds ≡ false → SparesAll (carry.Less r n) ds
not_among r n [] e = tt
not_among r n (d ∷ ds) e =
    let parts = or_parts (d == r) (list_any (λ x. x == r) ds) e in
    ((λ same. let hit : (d == r) ≡ true = eq-eqb d r (sym same) in absurd (let no = sym hit ∙ parts.0 in cc)), not_among r n ds parts.1)

-- the remaining tag names no written register
pub forgotten_spares : (written : List ℕ) (c : CarryTag) → SparesAll (forgotten written c) written
forgotten_spares written carry.None = none_spares written
forgotten_spares written (carry.Borrow j l) = borrow_spares j l written
forgotten_spares written (carry.Sum j l) = sum_spares j l written
forgotten_spares written (carry.Less r n) = by (list_any (λ d. d == r) written) refl
  where
    by : (b : Bool) → list_any (λ d. d == r) written ≡ b → SparesAll (if b then carry.None else carry.Less r n) written
    by true e = none_spares written
    by false e = not_among r n written e

pub forgotten_less : (written : List ℕ) (c : CarryTag) → IsCarryWithin c (forgotten written c)
forgotten_less written c = forgotten_is (IsCarryWithin c) written c (carries_are_ordered.same c) tt

same_forgotten : (written : List ℕ) (c d : CarryTag) → c ≡ d → IsCarryWithin (forgotten written c) (forgotten written d)
same_forgotten written c d e = subst (λ (x : CarryTag). IsCarryWithin (forgotten written c) (forgotten written x)) e (carries_are_ordered.same (forgotten written c))

pub forgotten_more : (written : List ℕ) (c d : CarryTag) → IsCarryWithin c d → IsCarryWithin (forgotten written c) (forgotten written d)
forgotten_more written c carry.None le = tt
forgotten_more written c (carry.Borrow j l) le = same_forgotten written c (carry.Borrow j l) le
forgotten_more written c (carry.Sum j l) le = same_forgotten written c (carry.Sum j l) le
forgotten_more written c (carry.Less r n) le = same_forgotten written c (carry.Less r n) le

pub forgetting_less : (written : List ℕ) (flags carry : Bool) (s : AbsState) → KnownFits s.facts → IsStateWithin s (forgetting written flags carry s)
forgetting_less written flags carry s fits =
    let same = states_are_ordered.same s in
    record {
      registers = same.registers;
      flags = record { entry = same.flags.entry; bits = same.flags.bits; carry = forgotten_less written s.flags.carry };
      count = refl;
      slots = same.slots;
      facts = writes_end_facts.less (is_one_of written) flags carry s.facts fits;
    }

-- the machine is at the node with the remaining tag
pub forgetting_at : {may : Bool} (m : State) (o : Origin) (k : NodeKey) (s : AbsState) (written : List ℕ) (flags carry : Bool) → InBareFrame may m o k s → InBareFrame may m o k (forgetting written flags carry s)
forgetting_at m o k s written flags carry at =
    record {
      machine = at.machine;
      node = record {
        word = at.node.word;
        small = at.node.small;
        masks = at.node.masks;
        fits = at.node.fits;
        pick = at.node.pick;
        formed = record {
          count_registers = at.node.formed.count_registers;
          registers = at.node.formed.registers;
          bit_7 = at.node.formed.bit_7;
          count_slots = at.node.formed.count_slots;
          slots = at.node.formed.slots;
          carry = forgotten_is CarryNamesRegister written s.flags.carry at.node.formed.carry tt;
          ranges = at.node.formed.ranges;
          slot_ranges = at.node.formed.slot_ranges;
          facts = writes_end_facts.fits (is_one_of written) flags carry s.facts at.node.formed.facts;
        };
        tags = record { registers = at.node.tags.registers; slots = at.node.tags.slots };
        carry_bytes = forgotten_is HasByteNumbers written s.flags.carry at.node.carry_bytes tt;
        untagged = λ root. record {
          registers = (at.node.untagged root).registers;
          entry = (at.node.untagged root).entry;
          carry = forgotten_is CarryIsUntagged written s.flags.carry (at.node.untagged root).carry tt;
          slots = (at.node.untagged root).slots;
        };
      };
      place = at.place;
      stands = values_say_less.state o s (forgetting written flags carry s) m (forgetting_less written flags carry s at.node.formed.facts) at.stands;
      facts =
          known_is_ordered.less s.facts (ended (is_one_of written) flags carry s.facts) m.registers (flag m.sreg 0) (flag m.sreg 1) (flag m.sreg 4)
          (writes_end_facts.less (is_one_of written) flags carry s.facts at.node.formed.facts) at.facts;
      banks = at.banks;
      root = at.root;
      top = at.top;
      base_word = at.base_word;
      room = at.room;
      sees = at.sees;
    }

-- ---- tags that speak of no register, and tags that speak of nothing else

abbrev pub NamesNone : CarryTag → Type 0
NamesNone carry.None = ⊤
NamesNone (carry.Borrow j l) = ⊤
NamesNone (carry.Sum j l) = ⊤
NamesNone (carry.Less r n) = ⊥

pub less_of_none : (registers : List ℕ) (c : CarryTag) (b : Bool) → NamesNone c → LessHolds registers c b
less_of_none registers carry.None b h = tt
less_of_none registers (carry.Borrow j l) b h = tt
less_of_none registers (carry.Sum j l) b h = tt
less_of_none registers (carry.Less r n) b h = absurd h

pub borrow_names_none : (t : Tag) (number : Option ℕ) → NamesNone (borrow_tag t number)
borrow_names_none t None = tt
borrow_names_none tag.None (Some l) = tt
borrow_names_none (tag.Entry r) (Some l) = tt
borrow_names_none tag.EntryFlags (Some l) = tt
borrow_names_none (tag.SpLo j) (Some l) = tt
borrow_names_none (tag.SpHi k) (Some l) = tt

pub sum_names_none : (t : Tag) (number : Option ℕ) → NamesNone (sum_tag t number)
sum_names_none t None = tt
sum_names_none tag.None (Some l) = tt
sum_names_none (tag.Entry r) (Some l) = tt
sum_names_none tag.EntryFlags (Some l) = tt
sum_names_none (tag.SpLo j) (Some l) = tt
sum_names_none (tag.SpHi k) (Some l) = tt

pub untagged_holds : (o : Origin) (c : CarryTag) (b : Bool) → CarryIsUntagged c → CarryHolds o c b
untagged_holds o carry.None b h = tt
untagged_holds o (carry.Borrow j l) b h = absurd h
untagged_holds o (carry.Sum j l) b h = absurd h
untagged_holds o (carry.Less r n) b h = tt

-- ---- comparisons

pub than_untagged : (d : ℕ) (number : Option ℕ) → CarryIsUntagged (less_than d number)
than_untagged d None = tt
than_untagged d (Some n) = tt

no_borrow : (x n : ℕ) → nat_lt x (n + 0) ≡ nat_lt x n
no_borrow x n = let e : n + 0 ≡ n = omega arith in ap (nat_lt x) e

pub compared : (registers : List ℕ) (d y n : ℕ) → y ≡ n → LessHolds registers (carry.Less d n) (nat_lt (slice_index registers d) (y + from_bool false))
compared registers d y n is = no_borrow (slice_index registers d) y ∙ ap (nat_lt (slice_index registers d)) is

pub than_holds : (registers : List ℕ) (d y : ℕ) (number : Option ℕ) → ((n : ℕ) → number ≡ Some n → y ≡ n)
    → LessHolds registers (less_than d number) (nat_lt (slice_index registers d) (y + from_bool false))
than_holds registers d y None is = tt
than_holds registers d y (Some n) is = compared registers d y n (is n refl)

pub alone_untagged : (c : CarryTag) → CarryIsUntagged (less_alone c)
alone_untagged carry.None = tt
alone_untagged (carry.Borrow j l) = tt
alone_untagged (carry.Sum j l) = tt
alone_untagged (carry.Less r n) = tt

pub alone_less : (registers : List ℕ) (c : CarryTag) (b : Bool) → LessHolds registers c b → LessHolds registers (less_alone c) b
alone_less registers carry.None b h = tt
alone_less registers (carry.Borrow j l) b h = tt
alone_less registers (carry.Sum j l) b h = tt
alone_less registers (carry.Less r n) b h = h

-- a property of `Less` and of none holds of the kept tag
pub kept_is : (C : CarryTag → Type 0) (f g : Option ℕ) (c : CarryTag) → C (less_alone c) → C carry.None → C (less_kept f g c)
kept_is C None g c h none = none
kept_is C (Some x) None c h none = none
kept_is C (Some x) (Some y) c h none = by (x == y)
  where
    by : (b : Bool) → C (if b then less_alone c else carry.None)
    by true = h
    by false = none

-- equal bytes and a borrow borrow again
borrows_again : (x y : ℕ) (b : Bool) → x ≡ y → nat_lt x (y + from_bool b) ≡ b
borrows_again x y true e = grind (arith, nat_tests)
borrows_again x y false e = grind (arith, nat_tests)

pub kept_holds : (registers : List ℕ) (x y : ℕ) (f g : Option ℕ) (c : CarryTag) (b : Bool) → ((n : ℕ) → f ≡ Some n → x ≡ n) → ((n : ℕ) → g ≡ Some n → y ≡ n)
    → LessHolds registers c b → LessHolds registers (less_kept f g c) (nat_lt x (y + from_bool b))
kept_holds registers x y None g c b is is' h = tt
kept_holds registers x y (Some u) None c b is is' h = tt
kept_holds registers x y (Some u) (Some v) c b is is' h = by (u == v) refl
  where
    by : (same : Bool) → (u == v) ≡ same → LessHolds registers (if same then less_alone c else carry.None) (nat_lt x (y + from_bool b))
    by false e = tt
    by true e =
        let equal : u ≡ v = grind (arith, nat_tests) in
        let again = borrows_again x y b (is u refl ∙ equal ∙ sym (is' v refl)) in
        subst (LessHolds registers (less_alone c)) (sym again) (alone_less registers c b h)

-- ---- ranges that are cut

-- a value cut by C holds, if C says on which side of n the byte is
pub part_stands : (o : Origin) (v : AbsByte) (x n : ℕ) (c : Bool) → ByteStands o v x → c ≡ nat_lt x n → (w : AbsByte) × ((part_of c v n ≡ Some w) × ByteStands o w x)
part_stands o v x n true h e =
    let below : x < n = grind (arith, nat_tests) in
    let some : nat_lt v.low n ≡ true = grind (arith, nat_tests, h.low) in (
      record v { high = min v.high (n - 1) },
      (
        ap (λ (b : Bool). if b then Some (record v { high = min v.high (n - 1) }) else None) some,
        record { tag = h.tag; bits = h.bits; low = h.low; high = omega (arith, h.high); small = h.small },
      ),
    )
part_stands o v x n false h e =
    let above : n ≤ x = grind (arith, nat_tests) in
    let some : nat_le n v.high ≡ true = grind (arith, nat_tests, h.high) in (
      record v { low = max v.low n },
      (
        ap (λ (b : Bool). if b then Some (record v { low = max v.low n }) else None) some,
        record { tag = h.tag; bits = h.bits; low = omega (arith, h.low); high = h.high; small = h.small },
      ),
    )
