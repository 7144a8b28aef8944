-- Jumps, branches, skips, calls, returns, pushes and pops are monotone.
use Rattle.std.proofs.Common.{◌≡◌, refl, sym, ap, ◌∙◌, subst, subst₂, ℕ, zero, suc, ◌+◌, ◌-◌, ◌<◌, ◌≤◌, ◌==◌, nat_lt, nat_le, min, max, ⊎_elim, Bool, true, false, List, [], ◌∷◌, ◌++◌, map, filter, take, replicate, Option, Some, None, length, if◌then◌else◌, slice_set, Contains, arith, append_assoc, length-append, length-take, leb-true, ◌^◌}
use Rattle.std.proofs.Math.Nat.{pow-le-pow_right}
use Rattle.std.proofs.lemmas.Bool.{cases_lt, cases_eq}
use Rattle.std.proofs.lemmas.Bool.Decides.{nat_tests}
use Rattle.std.proofs.lemmas.List.{get_or_past}
use Rattle.std.proofs.lemmas.Map.Views.{Contains-from_any}
use Rattle.local_rules.specs.Cover.{IsKey}
use Rattle.avr_model.proofs.AllLaws.{devices_are_alike}
use Rattle.avr_model.specs.Devices.{Image, size_of, back_of, depth_of, limit_of, limit_width, width}
use Rattle.std.proofs.lemmas.List.{append-nil}
use Rattle.avr_model.specs.declared.device.Device.{Device}
use Rattle.avr_model.specs.declared.assumption.Entry.{Entry}
use Rattle.avr_model.specs.Image.{word_at}
use Rattle.avr_model.specs.Table.{length_of}
use Rattle.avr_model.specs.Assumptions.{jump_line, lists}
use Rattle.avr_model.specs.State.{EIND}
use Rattle.avr_model.specs.Vectors.{enable_count, held_of}
use Rattle.bit_domain.specs.declared.bits.Tri.{Tri}
use Rattle.bit_domain.specs.declared.bits.Tri.TheVariants.{Zero, One, Any}
use Rattle.abs_alu.proofs.AllLaws.{same_within}
use Rattle.bit_domain.specs.Tri.{IsTriWithin}
use Rattle.bit_domain.specs.TriByte.{tri_at, byte_known, IsWithin}
use Rattle.bit_domain.specs.Numbers.{PointerBits, numbers_of, pointer_bit, targets_of, one_if_any, count_unknown}
use Rattle.bit_domain.proofs.AllLaws.{numbers_are_permitted}
use Rattle.sp_domain.specs.declared.tags.CarryTag.{CarryTag}
use Rattle.sp_domain.specs.declared.tags.CarryTag.TheVariants as carry
use Rattle.sp_domain.specs.declared.slots.Slot.{Slot}
use Rattle.sp_domain.specs.declared.slots.Slot.TheVariants.{Free}
use Rattle.sp_domain.specs.Slots.{slot_at}
use Rattle.sp_domain.specs.Tags.{IsCarryWithin}
use Rattle.sp_domain.proofs.AllLaws.{slots_are_lists}
use Rattle.abs_state.specs.declared.values.AbsByte.{AbsByte}
use Rattle.abs_state.specs.declared.state.AbsState.{AbsState}
use Rattle.abs_state.specs.Values.{value_at}
use Rattle.abs_state.specs.Formed.{CarryNamesRegister}
use Rattle.node_keys.specs.declared.keys.NodeKey.{NodeKey}
use Rattle.node_keys.specs.declared.keys.InstKey.{InstKey}
use Rattle.node_keys.specs.declared.keys.Kind.{Kind}
use Rattle.node_keys.specs.declared.keys.Kind.TheVariants.{Root, Call, Vector}
use Rattle.node_keys.specs.declared.keys.SpForm.{SpForm}
use Rattle.node_keys.specs.declared.keys.SpForm.TheVariants.{Closed, Open}
use Rattle.node_keys.specs.Keys.{offset_of}
use Rattle.node_keys.specs.Wakes.{without}
use Rattle.vector_table.proofs.AllLaws.{enables_are_vectors}
use Rattle.local_rules.specs.declared.local.Exit.{Exit}
use Rattle.local_rules.specs.declared.local.NodeFault.TheVariants.{UnresolvedJump, UntrackedSp, TooDeep}
use Rattle.local_rules.specs.Raw.{Raw, moves_to, fails, enters, untracked_if, all_of, at_word, off_table, turning_to, further, next}
use Rattle.local_rules.specs.Registers.{value, bits, set, carry_bit}
use Rattle.local_rules.specs.Reads.{value_of}
use Rattle.local_rules.specs.Flow.{branch, branch_by, skipping, reading_zero, flag_at, part_of, with_value, where_carry, going_where, carry_branch, flag_branch, words_on, targets_by, z_with, targets_at, far_targets_at, jumping, is_half_written, at_closed, pushed_slot, pushing, popping, making_room, site, calling, indirect_call, relative_call, returning}
use Rattle.local_laws.proofs.Members.{in_map, each_in_map, filter_more, filter_passes, not_empty, any_more}
use Rattle.local_laws.proofs.MonotoneValues.{IsLess, IsSlotLess, AreSlotsLess, IsStateLess, free_less, any_bit_within, registers_set}
use Rattle.local_laws.proofs.MonotoneRaw.{IsKeyPlace, LeadsLess, nodes_at, fails_less, untracked_less, if_leads, nowhere_less, above_first, above_rest, none_less, both_less, turning_less, several_less, one_less, choose, choose_more, choose_each, enters_less, leaves_less, further_small, off_table_key}
use Rattle.local_laws.proofs.MonotoneAlu.{reg, reg_bits, flag_bits}
use Rattle.local_laws.proofs.MonotoneReads.{IsReadLess, slot_value}
use Rattle.local_rules.specs.Site.{site_at}

-- ---- where an indirect transfer leads

if_tri_within : (b : Bool) (t u t' u' : Tri) → (b ≡ true → IsTriWithin t u) → (b ≡ false → IsTriWithin t' u') → IsTriWithin (if b then t else t') (if b then u else u')
if_tri_within true t u t' u' h k = h refl
if_tri_within false t u t' u' h k = k refl

one_more : (t u : Tri) → IsTriWithin t u → one_if_any t ≤ one_if_any u
one_more Zero u le = omega arith
one_more One u le = omega arith
one_more Any Zero le = absurd (omega (arith, le 1 tt))
one_more Any One le = absurd (omega (arith, le 0 tt))
one_more Any Any le = omega arith

count_more : (f g : ℕ → Tri) (n : ℕ) → ((i : ℕ) → i < n → IsTriWithin (f i) (g i)) → count_unknown f n ≤ count_unknown g n
unfolding count_unknown
count_more f g zero le = omega arith
count_more f g (suc n) le =
    let rest = count_more f g n (λ i lt. le i (omega arith)) in
    omega (arith, rest, one_more (f n) (g n) (le n (omega arith)))

module _ (f g : ℕ → Tri) (n : ℕ) (le : (i : ℕ) → i < n → IsTriWithin (f i) (g i)) where
  numbers_more : (x : ℕ) → Contains (numbers_of f n) x → Contains (numbers_of g n) x
  numbers_more x i =
      let h = (numbers_are_permitted.members f n x).0 i in
      (numbers_are_permitted.members g n x).1 (record { small = h.small; bits = λ j lt. le j lt _ (h.bits j lt) })

  numbers_count : length (numbers_of f n) ≤ length (numbers_of g n)
  numbers_count =
      subst₂ (λ (a b : ℕ). a ≤ b) (sym (numbers_are_permitted.count f n)) (sym (numbers_are_permitted.count g n))
      (pow-le-pow_right {n = 2} (omega arith) (count_more f g n le))

-- if the second has targets, so has the first; all of them are the second's, and below the limit
abbrev AreTargetsLess : ℕ → Option (List ℕ) → Option (List ℕ) → Type 0
AreTargetsLess limit x y =
    (ys : List ℕ) → y ≡ Some ys
    → (xs : List ℕ) × ((x ≡ Some xs) × (((z : ℕ) → Contains xs z → Contains ys z) × ((z : ℕ) → Contains ys z → z < limit)))

module _ (limit : ℕ) (xs ys : List ℕ) (more : (z : ℕ) → Contains xs z → Contains ys z) (small : (z : ℕ) → Contains ys z → z < limit) where
  all_targets : (a b : Bool) → (b ≡ true → a ≡ true) → AreTargetsLess limit (if a then Some xs else None) (if b then Some ys else None)
  all_targets a false h zs e = cc
  all_targets true true h zs e =
      let is : ys ≡ zs = cc in
      (xs, (refl, ((λ z i. subst (λ (l : List ℕ). Contains l z) is (more z i)), (λ z i. small z (subst (λ (l : List ℕ). Contains l z) (sym is) i)))))
  all_targets false true h zs e = let no : false ≡ true = h refl in absurd (cc)

  listed_more : (x : ℕ) → lists xs x ≡ true → lists ys x ≡ true
  listed_more x e = any_more (λ (item : ℕ). item == x) xs ys more e

  listed_small : (x : ℕ) → lists ys x ≡ true → x < limit
  listed_small x e = small x (Contains-from_any {eq = λ (a b : ℕ). b == a} (λ a b is. grind (arith, nat_tests)) x ys e)

  few_less : (m n : ℕ) → m ≤ n → AreTargetsLess limit (if nat_le m 64 then Some xs else None) (if nat_le n 64 then Some ys else None)
  few_less m n count = all_targets (nat_le m 64) (nat_le n 64) (λ is. grind (arith, nat_tests))

  listed_less : (listed : List ℕ) → AreTargetsLess limit (Some (filter (lists xs) listed)) (Some (filter (lists ys) listed))
  listed_less listed zs e =
      let is : filter (lists ys) listed ≡ zs = cc in (
        filter (lists xs) listed,
        (
          refl,
          (
            (λ z i. subst (λ (l : List ℕ). Contains l z) is (filter_more (lists xs) (lists ys) listed listed_more z i)),
            (λ z i. listed_small z (filter_passes (lists ys) listed z (subst (λ (l : List ℕ). Contains l z) (sym is) i))),
          ),
        ),
      )

-- a word address of the device is one of its texts
pub width_small : (device : Device) (z : ℕ) → z < 2 ^ width device → z < limit_of device
width_small device z lt = let most = devices_are_alike.in_limit device in omega arith

module _ (device : Device) (p q : PointerBits) (low : IsWithin p.low q.low) (high : IsWithin p.high q.high) (bank : IsWithin p.bank q.bank) where
  word_bits : (n i : ℕ) → i < n → IsTriWithin (pointer_bit p i) (pointer_bit q i)
  word_bits n i lt =
      if_tri_within (nat_lt i 8) (tri_at p.low i) (tri_at q.low i) (if nat_lt i 16 then tri_at p.high (i - 8) else tri_at p.bank (i - 16))
      (if nat_lt i 16 then tri_at q.high (i - 8) else tri_at q.bank (i - 16))
      (λ e. any_bit_within p.low q.low i low)
      (λ e.
      if_tri_within (nat_lt i 16) (tri_at p.high (i - 8)) (tri_at q.high (i - 8)) (tri_at p.bank (i - 16)) (tri_at q.bank (i - 16))
      (λ f. any_bit_within p.high q.high (i - 8) high) (λ f. any_bit_within p.bank q.bank (i - 16) bank))

  words_more : (z : ℕ) → Contains (words_on device p) z → Contains (words_on device q) z
  words_more = numbers_more (pointer_bit p) (pointer_bit q) (width device) (word_bits (width device))

  words_small : (z : ℕ) → Contains (words_on device q) z → z < limit_of device
  words_small z i = width_small device z ((numbers_are_permitted.members (pointer_bit q) (width device) z).0 i).small

  pub words_targets : (line : Option (List ℕ)) → AreTargetsLess (limit_of device) (targets_by device line p) (targets_by device line q)
  words_targets None =
      few_less (limit_of device) (words_on device p) (words_on device q) words_more words_small (length (targets_of (limit_width device) p)) (length (targets_of (limit_width device) q))
      (numbers_count (pointer_bit p) (pointer_bit q) (limit_width device) (word_bits (limit_width device)))
  words_targets (Some listed) = listed_less (limit_of device) (words_on device p) (words_on device q) words_more words_small listed

-- ---- slots that are pushed and popped

pub pushed_slot_less : (kind : Kind) (scratch : Bool) (v w : AbsByte) → IsLess kind v w → IsSlotLess kind (pushed_slot scratch v) (pushed_slot scratch w)
pushed_slot_less kind true v w h = free_less kind
pushed_slot_less kind false v w h = record { within = h.within; good = (h.good, h.ranged) }

module _ (kind : Kind) (offset : ℕ) (xs ys : List (Slot AbsByte)) (le : AreSlotsLess kind offset xs ys) where
  past : (us vs : List (Slot AbsByte)) (d : ℕ) → length us ≤ d → length vs ≤ d → IsSlotLess kind (slot_at us d) (slot_at vs d)
  past us vs d a b = subst₂ (IsSlotLess kind) (sym (get_or_past us d Free a)) (sym (get_or_past vs d Free b)) (free_less kind)

  pub pushed_less : (x y : Slot AbsByte) → IsSlotLess kind x y → AreSlotsLess kind (offset + 1) (xs ++ x ∷ []) (ys ++ y ∷ [])
  pushed_less x y h =
      let lists = slots_are_lists {V = AbsByte} in
      let count : length (xs ++ x ∷ []) ≡ offset + 1 = omega (arith, length-append xs (x ∷ []), le.count) in
      let others : length (ys ++ y ∷ []) ≡ offset + 1 = omega (arith, length-append ys (y ∷ []), le.others) in
      record {
        count = count;
        others = others;
        each = λ d. ⊎_elim
            (λ lt. subst₂ (IsSlotLess kind) (sym (lists.pushed xs x d (omega (arith, le.count)))) (sym (lists.pushed ys y d (omega (arith, le.others)))) (le.each d))
            (λ over. ⊎_elim
            (λ same. let ex : length xs ≡ d = omega (arith, le.count, same) in
            let ey : length ys ≡ d = omega (arith, le.others, same) in
            subst₂ (IsSlotLess kind) (sym (lists.last xs x) ∙ ap (slot_at (xs ++ x ∷ [])) ex) (sym (lists.last ys y) ∙ ap (slot_at (ys ++ y ∷ [])) ey) h)
            (λ other. past (xs ++ x ∷ []) (ys ++ y ∷ []) d (omega (arith, count, over, other)) (omega (arith, others, over, other)))
            (cases_eq d offset))
            (cases_lt d offset);
      }

  pub cut_less : (n : ℕ) → n ≤ offset → AreSlotsLess kind n (take n xs) (take n ys)
  cut_less n small =
      let lists = slots_are_lists {V = AbsByte} in
      let count : length (take n xs) ≡ n = omega (arith, length-take n xs, le.count) in
      let others : length (take n ys) ≡ n = omega (arith, length-take n ys, le.others) in
      record {
        count = count;
        others = others;
        each = λ d. ⊎_elim
            (λ lt. subst₂ (IsSlotLess kind) (sym (lists.cut xs n d lt)) (sym (lists.cut ys n d lt)) (le.each d))
            (λ over. past (take n xs) (take n ys) d (omega (arith, count)) (omega (arith, others)))
            (cases_lt d n);
      }

pub room_less : (kind : Kind) (offset n : ℕ) (xs ys : List (Slot AbsByte)) → AreSlotsLess kind offset xs ys
    → AreSlotsLess kind (offset + n) (xs ++ replicate n Free) (ys ++ replicate n Free)
room_less kind offset zero xs ys le =
    let is : offset ≡ offset + 0 = omega arith in
    subst₂ (AreSlotsLess kind (offset + 0)) (sym (append-nil xs)) (sym (append-nil ys)) (subst (λ (i : ℕ). AreSlotsLess kind i xs ys) is le)
room_less kind offset (suc n) xs ys le =
    let once = pushed_less kind offset xs ys le Free Free (free_less kind) in
    let more = room_less kind (offset + 1) n (xs ++ Free ∷ []) (ys ++ Free ∷ []) once in
    let is : offset + 1 + n ≡ offset + suc n = omega arith in
    subst₂ (AreSlotsLess kind (offset + suc n)) (append_assoc xs (Free ∷ []) (replicate n Free)) (append_assoc ys (Free ∷ []) (replicate n Free))
    (subst (λ (i : ℕ). AreSlotsLess kind i ((xs ++ Free ∷ []) ++ replicate n Free) ((ys ++ Free ∷ []) ++ replicate n Free)) is more)

-- ---- branches on C

-- the value that a test chose
if_some : (b : Bool) (v x : AbsByte) → (if b then Some v else None) ≡ Some x → (b ≡ true) × (v ≡ x)
if_some true v x e = (refl, cc)
if_some false v x e = absurd (cc)

-- the successor at a word is below the first or the second of two
first_less : {device : Device} (inst : InstKey) (o : Option AbsState) (k : NodeKey) (pc : ℕ) (q r : Raw) → LeadsLess device inst (going_where k o pc) q → LeadsLess device inst (going_where k o pc) (all_of (q ∷ r ∷ []))
first_less inst None k pc q r h = above_first inst [] q (r ∷ []) h
first_less inst (Some s) k pc q r h = above_first inst _ q (r ∷ []) h

second_less : {device : Device} (inst : InstKey) (o : Option AbsState) (k : NodeKey) (pc : ℕ) (r q : Raw) → LeadsLess device inst (going_where k o pc) q → LeadsLess device inst (going_where k o pc) (all_of (r ∷ q ∷ []))
second_less inst None k pc r q h = above_rest inst [] r (q ∷ []) (above_first inst [] q [] h)
second_less inst (Some s) k pc r q h = above_rest inst _ r (q ∷ []) (above_first inst _ q [] h)

-- ---- rows

closed_less : {device : Device} (inst : InstKey) (sp : SpForm) (pc : ℕ) (f g : ℕ → Raw) → ((offset : ℕ) → sp ≡ Closed offset → LeadsLess device inst (f offset) (g offset))
    → LeadsLess device inst (at_closed sp pc f) (at_closed sp pc g)
closed_less inst (Closed offset) pc f g h = h offset refl
closed_less inst (Open offset high) pc f g h = fails_less inst (fails (UntrackedSp pc)) (UntrackedSp pc)

room_by : {device : Device} (inst : InstKey) (b : Bool) (n pc : ℕ) (p q : Raw) → (b ≡ true → LeadsLess device inst p q) → LeadsLess device inst (if b then p else fails (TooDeep pc n)) (if b then q else fails (TooDeep pc n))
room_by inst true n pc p q h = h refl
room_by inst false n pc p q h = fails_less inst (fails (TooDeep pc n)) (TooDeep pc n)

branch_nodes : (x : Tri) (k l : NodeKey) (s : AbsState) (taken other : ℕ)
    → branch_by x (off_table k taken) (off_table l other) s ≡ moves_to (nodes_at (λ (j : NodeKey). j) s (choose x (off_table l other) (off_table k taken)))
branch_nodes Zero k l s taken other = refl
branch_nodes One k l s taken other = refl
branch_nodes Any k l s taken other = refl

-- removing a vector leaves enable bits
without_small : (device : Device) (may : Bool) (v : Option ℕ) (masks : ℕ) → masks < 2 ^ enable_count device → without device may v masks < 2 ^ enable_count device
without_small device false v masks lt = lt
without_small device true None masks lt = lt
without_small device true (Some v) masks lt = enables_are_vectors.turned device masks v false

off_place : {device : Device} (inst : InstKey) (offset : ℕ) (k : NodeKey) (pc : ℕ) → IsKeyPlace device inst offset k → pc < limit_of device → IsKeyPlace device inst offset (off_table k pc)
off_place inst offset k pc at lt = record { key = off_table_key k pc at.key lt; same = at.same; at = at.at }

-- calls have the same targets in all states
sites_less : {device : Device} (inst : InstKey) (k : NodeKey) (back : ℕ) (xs ys : List ℕ) → ((z : ℕ) → Contains xs z → Contains ys z) → LeadsLess device inst (calling k back xs) (calling k back ys)
sites_less inst k back xs ys more =
    untracked_less inst (is_half_written k.sp) k.pc (enters (map (λ t. site t back) xs)) (enters (map (λ t. site t back) ys))
    (enters_less inst (map (λ t. site t back) xs) (map (λ t. site t back) ys)
    (each_in_map (λ (t : ℕ). site t back) (Contains (map (λ (t : ℕ). site t back) ys)) xs (λ x i. in_map (λ (t : ℕ). site t back) ys x (more x i))))

pub calling_less : {device : Device} (inst : InstKey) (k : NodeKey) (back : ℕ) (xs : List ℕ) → LeadsLess device inst (calling k back xs) (calling k back xs)
calling_less inst k back xs = sites_less inst k back xs xs (λ z i. i)

pub returning_less : {device : Device} (inst : InstKey) (x : Exit) (pc : ℕ) (kind : Kind) (offset : ℕ) → LeadsLess device inst (returning x pc kind offset) (returning x pc kind offset)
returning_less inst x pc kind (suc n) = fails_less inst (fails (UntrackedSp pc)) (UntrackedSp pc)
returning_less inst x pc Root zero = fails_less inst (fails (UntrackedSp pc)) (UntrackedSp pc)
returning_less inst x pc Call zero = leaves_less inst x
returning_less inst x pc (Vector v) zero = leaves_less inst x

module _ (device : Device) (k : NodeKey) (at : IsKey device k) (s t : AbsState) (le : IsStateLess k.inst.kind (offset_of k.sp) s t) where
  abbrev kind : Kind
  kind = k.inst.kind

  words_less : (xs ys : List ℕ) → ((z : ℕ) → Contains xs z → Contains ys z) → ((z : ℕ) → Contains ys z → z < limit_of device)
      → LeadsLess device k.inst (moves_to (map (λ a. record { key = off_table k a; state = s }) xs)) (moves_to (map (λ a. record { key = off_table k a; state = t }) ys))
  words_less xs ys more small =
      several_less k.inst (offset_of k.sp) (off_table k) s t xs ys more (λ z i. record { key = off_table_key k z at (small z i); same = refl; at = refl }) le

  abbrev IsPlace : NodeKey → Type 0
  IsPlace j = IsKeyPlace device k.inst (offset_of k.sp) j

  pub here : IsPlace k
  here = record { key = at; same = refl; at = refl }

  -- the key after a bit reads 0
  pub zero_place : (may : Bool) (a b : ℕ) → IsPlace (reading_zero device may k a b)
  zero_place may a b =
      record {
        key = record { word = at.word; small = at.small; masks = without_small device may (held_of device a b) k.masks at.masks; fits = at.fits; pick = at.pick };
        same = refl;
        at = refl;
      }

  ways_less : (x y : Tri) (j l : NodeKey) (taken other : ℕ) → IsPlace j → IsPlace l → IsTriWithin x y → taken < limit_of device → other < limit_of device
      → LeadsLess device k.inst (branch_by x (off_table j taken) (off_table l other) s) (branch_by y (off_table j taken) (off_table l other) t)
  ways_less x y j l taken other first second within a b =
      subst₂ (LeadsLess device k.inst) (sym (branch_nodes x j l s taken other)) (sym (branch_nodes y j l t taken other))
      (several_less k.inst (offset_of k.sp) (λ (i : NodeKey). i) s t (choose x (off_table l other) (off_table j taken)) (choose y (off_table l other) (off_table j taken))
      (λ z. choose_more x y (off_table l other) (off_table j taken) z within)
      (choose_each IsPlace y (off_table l other) (off_table j taken) (off_place k.inst (offset_of k.sp) l other second b) (off_place k.inst (offset_of k.sp) j taken first a)) le)

  pub branch_less : (x y : Tri) (taken other : ℕ) → IsTriWithin x y → taken < limit_of device → other < limit_of device → LeadsLess device k.inst (branch x k s taken other) (branch y k t taken other)
  branch_less x y taken other within a b = ways_less x y k k taken other here here within a b

  -- ---- branches on C

  -- if the lesser value's cut exists, so does the greater one's, and it is above
  part_less : (c : Bool) (v w : AbsByte) (n : ℕ) → IsLess kind v w → IsReadLess kind (part_of c v n) (part_of c w n)
  part_less true v w n h x e =
      let was = if_some (nat_lt v.low n) _ x e in
      let some : nat_lt w.low n ≡ true = grind (arith, nat_tests, was.0, h.within.low) in (
        record w { high = min w.high (n - 1) },
        (
          ap (λ (b : Bool). if b then Some (record w { high = min w.high (n - 1) }) else None) some,
          subst (λ (z : AbsByte). IsLess kind z (record w { high = min w.high (n - 1) })) was.1 (record {
            within = record { tag = h.within.tag; bits = h.within.bits; low = h.within.low; high = omega (arith, h.within.high) };
            good = h.good;
            ranged = record { low = h.ranged.low; ordered = grind (arith, nat_tests, was.0, h.ranged.ordered); high = omega (arith, h.ranged.high) };
          }),
        ),
      )
  part_less false v w n h x e =
      let was = if_some (nat_le n v.high) _ x e in
      let some : nat_le n w.high ≡ true = grind (arith, nat_tests, was.0, h.within.high) in (
        record w { low = max w.low n },
        (
          ap (λ (b : Bool). if b then Some (record w { low = max w.low n }) else None) some,
          subst (λ (z : AbsByte). IsLess kind z (record w { low = max w.low n })) was.1 (record {
            within = record { tag = h.within.tag; bits = h.within.bits; low = omega (arith, h.within.low); high = h.within.high };
            good = h.good;
            ranged = record { low = omega (arith, h.ranged.low); ordered = grind (arith, nat_tests, was.0, h.ranged.ordered); high = h.ranged.high };
          }),
        ),
      )

  -- a cut value is below the greater one
  part_under : (c : Bool) (v w : AbsByte) (n : ℕ) (x : AbsByte) → IsLess kind v w → part_of c v n ≡ Some x → IsLess kind x w
  part_under true v w n x h e =
      let was = if_some (nat_lt v.low n) _ x e in
      subst (λ (z : AbsByte). IsLess kind z w) was.1 (record {
        within = record { tag = h.within.tag; bits = h.within.bits; low = h.within.low; high = omega (arith, h.within.high) };
        good = h.good;
        ranged = record { low = h.ranged.low; ordered = grind (arith, nat_tests, was.0, h.ranged.ordered); high = omega (arith, h.ranged.high) };
      })
  part_under false v w n x h e =
      let was = if_some (nat_le n v.high) _ x e in
      subst (λ (z : AbsByte). IsLess kind z w) was.1 (record {
        within = record { tag = h.within.tag; bits = h.within.bits; low = omega (arith, h.within.low); high = h.within.high };
        good = h.good;
        ranged = record { low = omega (arith, h.ranged.low); ordered = grind (arith, nat_tests, was.0, h.ranged.ordered); high = h.ranged.high };
      })

  -- the lesser state with one register cut
  cut_state : (r : ℕ) (x w : AbsByte) → IsLess kind x w → IsStateLess kind (offset_of k.sp) (record s { registers = set s r x }) (record t { registers = set t r w })
  cut_state r x w h = record { registers = registers_set kind s.registers t.registers le.registers r x w h; flags = le.flags; slots = le.slots; facts = le.facts }

  set_itself : (xs : List AbsByte) (r : ℕ) → r < length xs → slice_set xs r (value_at xs r) ≡ xs
  set_itself [] r lt = absurd (omega arith)
  set_itself (x ∷ xs) zero lt = refl
  set_itself (x ∷ xs) (suc r) lt = ap (λ (ys : List AbsByte). x ∷ ys) (set_itself xs r (omega arith))

  -- the greater state isn't cut if its carry tag names no register
  uncut : (c : CarryTag) → CarryNamesRegister c → (on : Bool) (pc : ℕ) → pc < limit_of device → LeadsLess device k.inst (going_where k (where_carry c s on) pc) (turning_to k t pc)
  uncut carry.None names on pc lt = turning_less device k at s t le pc lt
  uncut (carry.Borrow j l) names on pc lt = turning_less device k at s t le pc lt
  uncut (carry.Sum j l) names on pc lt = turning_less device k at s t le pc lt
  uncut (carry.Less r n) names on pc lt = by (part_of on (value s r) n) refl
    where
      back : record t { registers = set t r (value t r) } ≡ t
      back = ap (λ (xs : List AbsByte). record t { registers = xs }) (set_itself t.registers r (omega (arith, le.registers.others)))

      by : (x : Option AbsByte) → part_of on (value s r) n ≡ x → LeadsLess device k.inst (going_where k (with_value s r x) pc) (turning_to k t pc)
      by None e = nowhere_less k.inst _
      by (Some x) e =
          turning_less device k at (record s { registers = set s r x }) t
          (subst (IsStateLess kind (offset_of k.sp) (record s { registers = set s r x })) back
          (cut_state r x (value t r) (part_under on (value s r) (value t r) n x (reg device k at s t le r) e))) pc lt

  -- both states are cut alike
  both_cut : (r n : ℕ) (on : Bool) (pc : ℕ) → pc < limit_of device
      → LeadsLess device k.inst (going_where k (where_carry (carry.Less r n) s on) pc) (going_where k (where_carry (carry.Less r n) t on) pc)
  both_cut r n on pc lt = by (part_of on (value s r) n) (part_of on (value t r) n) (part_less on (value s r) (value t r) n (reg device k at s t le r))
    where
      by : (x y : Option AbsByte) → IsReadLess kind x y → LeadsLess device k.inst (going_where k (with_value s r x) pc) (going_where k (with_value t r y) pc)
      by None None h = nowhere_less k.inst []
      by None (Some w) h = nowhere_less k.inst _
      by (Some x) y h =
          let above = h x refl in
          subst (λ (z : Option AbsByte). LeadsLess device k.inst (going_where k (with_value s r (Some x)) pc) (going_where k (with_value t r z) pc)) (sym above.1.0)
          (turning_less device k at (record s { registers = set s r x }) (record t { registers = set t r above.0 }) (cut_state r x above.0 above.1.1) pc lt)

  where_less : (c d : CarryTag) → CarryNamesRegister c → IsCarryWithin c d → (on : Bool) (pc : ℕ) → pc < limit_of device
      → LeadsLess device k.inst (going_where k (where_carry c s on) pc) (going_where k (where_carry d t on) pc)
  where_less c carry.None names under on pc lt = uncut c names on pc lt
  where_less c (carry.Borrow j l) names under on pc lt = uncut c names on pc lt
  where_less c (carry.Sum j l) names under on pc lt = uncut c names on pc lt
  where_less c (carry.Less r n) names under on pc lt =
      subst (λ (x : CarryTag). LeadsLess device k.inst (going_where k (where_carry x s on) pc) (going_where k (where_carry (carry.Less r n) t on) pc)) (sym under) (both_cut r n on pc lt)

  carry_less : (x y : Tri) (set' clear : ℕ) → IsTriWithin x y → set' < limit_of device → clear < limit_of device → LeadsLess device k.inst (carry_branch x k s set' clear) (carry_branch y k t set' clear)
  carry_less x y set' clear within lt lt' =
      let when_set = where_less s.flags.carry t.flags.carry le.flags.names le.flags.within.carry true set' lt in
      let when_clear = where_less s.flags.carry t.flags.carry le.flags.names le.flags.within.carry false clear lt' in
      by x y within when_set when_clear
    where
      by : (x y : Tri) → IsTriWithin x y
          → LeadsLess device k.inst (going_where k (where_carry s.flags.carry s true) set') (going_where k (where_carry t.flags.carry t true) set')
          → LeadsLess device k.inst (going_where k (where_carry s.flags.carry s false) clear) (going_where k (where_carry t.flags.carry t false) clear)
          → LeadsLess device k.inst (carry_branch x k s set' clear) (carry_branch y k t set' clear)
      by Zero Zero within one none = none
      by Zero One within one none = absurd (omega (arith, within 0 refl))
      by Zero Any within one none =
          first_less k.inst (where_carry s.flags.carry s false) k clear (going_where k (where_carry t.flags.carry t false) clear) (going_where k (where_carry t.flags.carry t true) set') none
      by One Zero within one none = absurd (omega (arith, within 1 refl))
      by One One within one none = one
      by One Any within one none =
          second_less k.inst (where_carry s.flags.carry s true) k set' (going_where k (where_carry t.flags.carry t false) clear) (going_where k (where_carry t.flags.carry t true) set') one
      by Any Zero within one none = absurd (omega (arith, within 1 tt))
      by Any One within one none = absurd (omega (arith, within 0 tt))
      by Any Any within one none =
          both_less k.inst (going_where k (where_carry s.flags.carry s false) clear) (going_where k (where_carry t.flags.carry t false) clear)
          (going_where k (where_carry s.flags.carry s true) set' ∷ []) (going_where k (where_carry t.flags.carry t true) set' ∷ []) none
          (both_less k.inst (going_where k (where_carry s.flags.carry s true) set') (going_where k (where_carry t.flags.carry t true) set') [] [] one (none_less k.inst))

  pub flag_less : (n set' clear : ℕ) (p q : Raw) → set' < limit_of device → clear < limit_of device → LeadsLess device k.inst p q
      → LeadsLess device k.inst (flag_branch n (record { key = k; state = s }) set' clear p) (flag_branch n (record { key = k; state = t }) set' clear q)
  flag_less n set' clear p q lt lt' other =
      if_leads k.inst (n == 0) _ _ _ _ (carry_less (carry_bit s) (carry_bit t) set' clear (any_bit_within s.flags.bits t.flags.bits 0 (flag_bits device k at s t le)) lt lt') other

  pub skipping_less : (image : Image) (j l : NodeKey) (x y : Tri) → IsPlace j → IsPlace l → IsTriWithin x y → LeadsLess device k.inst (skipping image (site_at device j s) j l x) (skipping image (site_at device j t) j l y)
  skipping_less image j l x y first second within =
      ways_less x y j l (further device j (1 + length_of (word_at image (j.pc + 1)))) (further device j 1) first second within (further_small device j (1 + length_of (word_at image (j.pc + 1)))) (further_small device j 1)

  pub flag_within : (n : ℕ) → IsTriWithin (flag_at k s n) (flag_at k t n)
  flag_within n =
      if_tri_within (n == 7) (if k.i then One else Zero) (if k.i then One else Zero) (tri_at s.flags.bits n) (tri_at t.flags.bits n)
      (λ e m p. p) (λ e. any_bit_within s.flags.bits t.flags.bits n (flag_bits device k at s t le))

  jumping_by : (x y : Option (List ℕ)) → AreTargetsLess (limit_of device) x y → LeadsLess device k.inst (jumping x k s) (jumping y k t)
  jumping_by x None h = fails_less k.inst (jumping x k s) (UnresolvedJump k.pc)
  jumping_by x (Some ys) h =
      let xs = h ys refl in
      subst (λ (z : Option (List ℕ)). LeadsLess device k.inst (jumping z k s) (jumping (Some ys) k t)) (sym xs.1.0) (words_less xs.0 ys xs.1.1.0 xs.1.1.1)

  indirect_by : (x y : Option (List ℕ)) → AreTargetsLess (limit_of device) x y → LeadsLess device k.inst (indirect_call device x k) (indirect_call device y k)
  indirect_by x None h = indirect_none x (is_half_written k.sp)
    where
      indirect_none : (x : Option (List ℕ)) (b : Bool) → LeadsLess device k.inst (indirect_call device x k) (untracked_if b k.pc (fails (UnresolvedJump k.pc)))
      indirect_none x true = λ e. absurd (not_empty (UntrackedSp k.pc) (UnresolvedJump k.pc ∷ []) e)
      indirect_none x false = fails_less k.inst (indirect_call device x k) (UnresolvedJump k.pc)
  indirect_by x (Some ys) h =
      let xs = h ys refl in
      subst (λ (z : Option (List ℕ)). LeadsLess device k.inst (indirect_call device z k) (indirect_call device (Some ys) k)) (sym xs.1.0) (sites_less k.inst k (further device k 1) xs.0 ys xs.1.1.0)

  targets : (A : List Entry) → AreTargetsLess (limit_of device) (targets_at A (site_at device k s)) (targets_at A (site_at device k t))
  targets A =
      words_targets device (z_with s (byte_known 0)) (z_with t (byte_known 0)) (reg_bits device k at s t le 30) (reg_bits device k at s t le 31) (same_within (byte_known 0))
      (jump_line A k.pc)

  far_targets : (A : List Entry) → AreTargetsLess (limit_of device) (far_targets_at A (site_at device k s)) (far_targets_at A (site_at device k t))
  far_targets A =
      words_targets device (z_with s (bits s EIND)) (z_with t (bits t EIND)) (reg_bits device k at s t le 30) (reg_bits device k at s t le 31) (reg_bits device k at s t le EIND)
      (jump_line A k.pc)

  pub jump_less : (A : List Entry) → LeadsLess device k.inst (jumping (targets_at A (site_at device k s)) k s) (jumping (targets_at A (site_at device k t)) k t)
  jump_less A = jumping_by (targets_at A (site_at device k s)) (targets_at A (site_at device k t)) (targets A)

  pub far_jump_less : (A : List Entry) → LeadsLess device k.inst (jumping (far_targets_at A (site_at device k s)) k s) (jumping (far_targets_at A (site_at device k t)) k t)
  far_jump_less A = jumping_by (far_targets_at A (site_at device k s)) (far_targets_at A (site_at device k t)) (far_targets A)

  pub indirect_less : (A : List Entry) → LeadsLess device k.inst (indirect_call device (targets_at A (site_at device k s)) k) (indirect_call device (targets_at A (site_at device k t)) k)
  indirect_less A = indirect_by (targets_at A (site_at device k s)) (targets_at A (site_at device k t)) (targets A)

  pub far_indirect_less : (A : List Entry) → LeadsLess device k.inst (indirect_call device (far_targets_at A (site_at device k s)) k) (indirect_call device (far_targets_at A (site_at device k t)) k)
  far_indirect_less A = indirect_by (far_targets_at A (site_at device k s)) (far_targets_at A (site_at device k t)) (far_targets A)

  slots_at : (offset : ℕ) → k.sp ≡ Closed offset → AreSlotsLess kind offset s.slots t.slots
  slots_at offset e = subst (λ (n : ℕ). AreSlotsLess kind n s.slots t.slots) (ap offset_of e) le.slots

  -- a size that fits the device is one of its texts
  room_small : {n : ℕ} → nat_le n (size_of device) ≡ true → n ≤ depth_of device
  room_small {n = n} e = omega (arith, leb-true n (size_of device) e, devices_are_alike.in_depth device)

  pub push_less : (scratch : Bool) (r : ℕ) → LeadsLess device k.inst (at_closed k.sp k.pc (pushing scratch (site_at device k s) r)) (at_closed k.sp k.pc (pushing scratch (site_at device k t) r))
  push_less scratch r =
      closed_less k.inst k.sp k.pc (pushing scratch (site_at device k s) r) (pushing scratch (site_at device k t) r)
      (λ offset e. room_by k.inst (nat_le (offset + 1) (size_of device)) (offset + 1) k.pc _ _ (λ small.
      one_less (record (next device k) { sp = Closed (offset + 1) }) (record s { slots = s.slots ++ pushed_slot scratch (value s r) ∷ [] }) (record t { slots = t.slots ++ pushed_slot scratch (value t r) ∷ [] })
      (record { word = further_small device k 1; small = room_small small; masks = at.masks; fits = tt; pick = at.pick })
      (record {
        registers = le.registers;
        flags = le.flags;
        slots = pushed_less kind offset s.slots t.slots (slots_at offset e) _ _ (pushed_slot_less kind scratch (value s r) (value t r) (reg device k at s t le r));
        facts = le.facts;
      })))

  room_row : (target : ℕ) → target < limit_of device → LeadsLess device k.inst (at_closed k.sp k.pc (making_room (site_at device k s) target)) (at_closed k.sp k.pc (making_room (site_at device k t) target))
  room_row target lt =
      closed_less k.inst k.sp k.pc (making_room (site_at device k s) target) (making_room (site_at device k t) target)
      (λ offset e. room_by k.inst (nat_le (offset + back_of device) (size_of device)) (offset + back_of device) k.pc _ _ (λ small.
      one_less (record (at_word k target) { sp = Closed (offset + back_of device) }) (record s { slots = s.slots ++ replicate (back_of device) Free }) (record t { slots = t.slots ++ replicate (back_of device) Free })
      (record { word = lt; small = room_small small; masks = at.masks; fits = tt; pick = at.pick })
      (record { registers = le.registers; flags = le.flags; slots = room_less kind offset (back_of device) s.slots t.slots (slots_at offset e); facts = le.facts })))

  pub relative_less : (scratch : Bool) (target : ℕ) → target < limit_of device → LeadsLess device k.inst (relative_call scratch (site_at device k s) target) (relative_call scratch (site_at device k t) target)
  relative_less true target lt = room_row target lt
  relative_less false target lt = calling_less k.inst k (further device k 1) (target ∷ [])

  pop_by : (d offset : ℕ) → k.sp ≡ Closed offset → LeadsLess device k.inst (popping (site_at device k s) d offset) (popping (site_at device k t) d offset)
  pop_by d zero e = fails_less k.inst (fails (UntrackedSp k.pc)) (UntrackedSp k.pc)
  pop_by d (suc n) e =
      one_less (record (next device k) { sp = Closed n })
      (record s { registers = set s d (value_of (slot_at s.slots n)); slots = take n s.slots }) (record t { registers = set t d (value_of (slot_at t.slots n)); slots = take n t.slots })
      (record { word = further_small device k 1; small = omega (arith, at.small, ap offset_of e); masks = at.masks; fits = tt; pick = at.pick })
      (record {
        registers = registers_set kind s.registers t.registers le.registers d _ _ (slot_value kind (slot_at s.slots n) (slot_at t.slots n) (le.slots.each n));
        flags = le.flags;
        slots = cut_less kind (suc n) s.slots t.slots (slots_at (suc n) e) n (omega arith);
        facts = le.facts;
      })

  pub pop_less : (d : ℕ) → LeadsLess device k.inst (at_closed k.sp k.pc (popping (site_at device k s) d)) (at_closed k.sp k.pc (popping (site_at device k t) d))
  pop_less d = closed_less k.inst k.sp k.pc (popping (site_at device k s) d) (popping (site_at device k t) d) (pop_by d)

  pub return_less : (x : Exit) → LeadsLess device k.inst (at_closed k.sp k.pc (returning x k.pc k.inst.kind)) (at_closed k.sp k.pc (returning x k.pc k.inst.kind))
  return_less x =
      closed_less k.inst k.sp k.pc (returning x k.pc k.inst.kind) (returning x k.pc k.inst.kind) (λ offset e. returning_less k.inst x k.pc k.inst.kind offset)
