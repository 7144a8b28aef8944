-- Allowances are lowered until they cover all notes.
use Rattle.std.proofs.Common.{◌≡◌, refl, sym, ap, ◌∙◌, subst, ◌⊎◌, inl, inr, ⊎_elim, Bool, true, false, cond, Some, Result, Ok, Err, IfOk, List, [], ◌∷◌, ◌++◌, ℕ, ◌+◌, ◌<◌, ◌≤◌, suc, length, drop, append_assoc, append-nil, arith, add-one}
use Rattle.std.specs.List.{Contains, slice_index_or}
use Rattle.std.proofs.lemmas.List.{drop-append-le, drop_all}
use Rattle.std.proofs.lemmas.List.Elements.{Contains-append_left, Contains-append_right, Contains-push_cases}
use Rattle.std.proofs.lemmas.Option.{same_Some}
use Rattle.std.proofs.Math.Seq.{drop-cons}
use Rattle.basics.specs.Items.{none_in, first_in, first_or_further}
use Rattle.node_keys.specs.declared.keys.InstKey.{InstKey}
use Rattle.node_keys.specs.Order.{same_inst}
use Rattle.node_keys.proofs.AllLaws.{keys_are_ordered}
use Rattle.round_nesting.specs.declared.allowances.Allowance.{Allowance}
use Rattle.round_nesting.specs.Nestings.{Spot, Entrance}
use Rattle.round_nesting.specs.Exits.{Exited, exits_at, AreListed}
use Rattle.round_nesting.specs.Covers.{Granted, allowed, AllowsSpot, AllowsEntrance, CoversNoted}
use Rattle.round_nesting.specs.Lowering.{IsLower, IsLowered, IsMet, Lowers, CoversBut, IsSettled, IsEntranceCovered}

-- ---- needs that are lowered

pub lowered_none : (gs : Granted) → IsLowered gs [] gs
lowered_none gs inst a is = record { now = a; is = is; need = omega arith; floor = omega arith; low = λ le. le; either = inl refl }

pub lowered_more : (gs between new : Granted) (one two : List InstKey) → IsLowered gs one between → IsLowered between two new → IsLowered gs (one ++ two) new
lowered_more gs between new one two first second inst a is =
    let b = first inst a is in
    let c = second inst b.now b.is in
    record {
      now = c.now;
      is = c.is;
      need = omega (arith, b.need, c.need);
      floor = omega (arith, b.floor, c.floor);
      low = λ le. c.low (b.low le);
      either = ⊎_elim (λ e. ⊎_elim (λ f. inl (e ∙ f)) (λ h. inr (Contains-append_left one two inst h)) b.either) (λ h. inr (Contains-append_right one two inst h)) c.either;
    }

-- the allowance of one instance changes
pub lowered_one : (gs new : Granted) (k : InstKey) (old less : Allowance) (waiting : List InstKey) → Some old ≡ allowed gs k → less.need ≤ old.need → old.floor ≤ less.floor
    → (old.floor ≤ old.need → less.floor ≤ less.need) → (less.need ≡ old.need) ⊎ Contains waiting k
    → ((q : InstKey) → allowed new q ≡ cond (same_inst k q) (Some less) (allowed gs q)) → IsLowered gs waiting new
lowered_one gs new k old less waiting at need floor low either up inst a is = by (same_inst k inst) refl
  where
    by : (b : Bool) → same_inst k inst ≡ b → IsLower a waiting new inst
    by true e =
        let same : k ≡ inst = (keys_are_ordered.same_insts k inst).0 e in
        let it : old ≡ a = same_Some old a (at ∙ ap (allowed gs) same ∙ is) in
        subst (λ (o : Allowance). IsLower o waiting new inst) it (record {
          now = less;
          is = up inst ∙ ap (λ b. cond b (Some less) (allowed gs inst)) e;
          need = need;
          floor = floor;
          low = low;
          either = subst (λ (i : InstKey). (less.need ≡ old.need) ⊎ Contains waiting i) same either;
        })
    by false e = record {
      now = a;
      is = up inst ∙ ap (λ b. cond b (Some less) (allowed gs inst)) e ∙ is;
      need = omega arith;
      floor = omega arith;
      low = λ le. le;
      either = inl refl;
    }

-- ---- what stays covered

pub spot_kept : (gs new : Granted) (waiting : List InstKey) (s : Spot) → IsLowered gs waiting new → AllowsSpot gs s → AllowsSpot new s
spot_kept gs new waiting s lowered a =
    let b = lowered s.inst a.most a.is in
    record { most = b.now; is = b.is; fits = omega (arith, a.fits, b.floor); low = b.low a.low }

pub entrance_kept : (back : ℕ) (gs new : Granted) (waiting : List InstKey) (x : Entrance) → IsLowered gs waiting new → AllowsEntrance back gs x → IsMet back new waiting x
entrance_kept back gs new waiting x lowered a =
    let from = lowered x.from a.from a.is_from in
    let into = lowered x.into a.into a.is_into in
    ⊎_elim
    (λ same. inl (record { from = from.now; into = into.now; is_from = from.is; is_into = into.is; need = omega (arith, a.need, into.need, same) }))
    (λ waits. inr waits) from.either

met_more : (back : ℕ) (gs new : Granted) (one two : List InstKey) (x : Entrance) → IsLowered gs two new → IsMet back gs one x → IsMet back new (one ++ two) x
met_more back gs new one two x lowered met =
    ⊎_elim (λ a. ⊎_elim (λ b. inl b) (λ w. inr (Contains-append_right one two x.from w)) (entrance_kept back gs new two x lowered a))
    (λ w. inr (Contains-append_left one two x.from w)) met

-- ---- for some entrances

pub lowers_none : (back : ℕ) (gs : Granted) (queue : List InstKey) → Lowers back gs queue [] gs queue
lowers_none back gs queue = record { more = []; queued = sym (append-nil queue); lowered = lowered_none gs; met = λ x h. absurd (none_in x h) }

pub lowers_more : (back : ℕ) (gs between new : Granted) (queue then now : List InstKey) (xs : List Entrance) (x : Entrance) → Lowers back gs queue xs between then
    → Lowers back between then (x ∷ []) new now → Lowers back gs queue (xs ++ x ∷ []) new now
lowers_more back gs between new queue then now xs x one two = record {
  more = one.more ++ two.more;
  queued = two.queued ∙ ap (λ l. l ++ two.more) one.queued ∙ append_assoc queue one.more two.more;
  lowered = lowered_more gs between new one.more two.more one.lowered two.lowered;
  met = λ y h. ⊎_elim (λ before. met_more back between new one.more two.more y two.lowered (one.met y before)) (λ same. this y same) (Contains-push_cases xs x y h);
}
  where
    this : (y : Entrance) → x ≡ y → IsMet back new (one.more ++ two.more) y
    this y same =
        subst (IsMet back new (one.more ++ two.more)) same
        (⊎_elim (λ a. inl a) (λ w. inr (Contains-append_right one.more two.more x.from w)) (two.met x (first_in x [])))

-- one entrance is covered as it is
pub lowers_covered : (back : ℕ) (gs : Granted) (queue : List InstKey) (x : Entrance) → AllowsEntrance back gs x → Lowers back gs queue (x ∷ []) gs queue
lowers_covered back gs queue x a = record {
  more = [];
  queued = sym (append-nil queue);
  lowered = lowered_none gs;
  met = λ y h. subst (IsMet back gs []) (sym (only y h)) (inl a);
}
  where
    only : (y : Entrance) → Contains (x ∷ []) y → y ≡ x
    only y h = ⊎_elim (λ e. e) (λ i. absurd (none_in y i)) (first_or_further x y [] h)

-- the allowance of the entered instance is lowered
pub lowers_one : (back : ℕ) (gs new : Granted) (queue : List InstKey) (x : Entrance) (from into less : Allowance) → Some from ≡ allowed gs x.from → Some into ≡ allowed gs x.into
    → less.need ≤ into.need → into.floor ≤ less.floor → less.floor ≤ less.need → x.offset + back + less.need ≤ from.need
    → ((q : InstKey) → allowed new q ≡ cond (same_inst x.into q) (Some less) (allowed gs q)) → Lowers back gs queue (x ∷ []) new (queue ++ x.into ∷ [])
lowers_one back gs new queue x from into less is_from is_into need floor low room up = record {
  more = x.into ∷ [];
  queued = refl;
  lowered = lowered_one gs new x.into into less (x.into ∷ []) is_into need floor (λ _. low) (inr (first_in x.into [])) up;
  met = λ y h. subst (IsMet back new (x.into ∷ [])) (sym (only y h)) (this (same_inst x.into x.from) refl);
}
  where
    only : (y : Entrance) → Contains (x ∷ []) y → y ≡ x
    only y h = ⊎_elim (λ e. e) (λ i. absurd (none_in y i)) (first_or_further x y [] h)

    this : (b : Bool) → same_inst x.into x.from ≡ b → IsMet back new (x.into ∷ []) x
    this true e = inr (subst (Contains (x.into ∷ [])) ((keys_are_ordered.same_insts x.into x.from).0 e) (first_in x.into []))
    this false e = inl (record {
      from = from;
      into = less;
      is_from = up x.from ∙ ap (λ b. cond b (Some less) (allowed gs x.from)) e ∙ sym is_from;
      is_into = up x.into ∙ ap (λ b. cond b (Some less) (allowed gs x.into)) ((keys_are_ordered.same_insts x.into x.into).1 refl);
      need = room;
    })

-- ---- until none waits

module _ (back : ℕ) (es : Exited) (gs : Granted) (spots : List Spot) (entrances : List Entrance) (listed : AreListed es entrances) where
  pub visited : (new : Granted) (queue now : List InstKey) (at : ℕ) (inst : InstKey) → at < length queue → inst ≡ slice_index_or queue at inst → Lowers back gs queue (exits_at es inst) new now
      → CoversBut back gs (drop at queue) spots entrances → CoversBut back new (drop (at + 1) now) spots entrances
  visited new queue now at inst lt here lowers but = record {
    each_spot = λ s h. spot_kept gs new lowers.more s lowers.lowered (but.each_spot s h);
    each_entrance = λ x h. ⊎_elim (λ a. widen x (entrance_kept back gs new lowers.more x lowers.lowered a)) (λ w. waits x h (first_or_further inst x.from rest (subst (λ l. Contains l x.from) split w)))
        (but.each_entrance x h);
  }
    where
      rest : List InstKey
      rest = drop (at + 1) queue

      split : drop at queue ≡ inst ∷ rest
      split = subst (λ n. drop at queue ≡ inst ∷ drop n queue) (sym (add-one at)) (drop-cons queue at inst lt ∙ ap (λ i. i ∷ drop (suc at) queue) (sym here))

      left : drop (at + 1) now ≡ rest ++ lowers.more
      left = ap (drop (at + 1)) lowers.queued ∙ drop-append-le (at + 1) queue lowers.more (omega (arith, lt))

      widen : (x : Entrance) → IsMet back new lowers.more x → IsMet back new (drop (at + 1) now) x
      widen x met = ⊎_elim (λ a. inl a) (λ w. inr (subst (λ l. Contains l x.from) (sym left) (Contains-append_right rest lowers.more x.from w))) met

      waits : (x : Entrance) → Contains entrances x → (x.from ≡ inst) ⊎ Contains rest x.from → IsMet back new (drop (at + 1) now) x
      waits x h (inl same) = widen x (lowers.met x (subst (λ i. Contains (exits_at es i) x) same (listed x h)))
      waits x h (inr w) = inr (subst (λ l. Contains l x.from) (sym left) (Contains-append_left rest lowers.more x.from w))

  pub without_exits : (queue : List InstKey) (at : ℕ) (inst : InstKey) → at < length queue → inst ≡ slice_index_or queue at inst → exits_at es inst ≡ []
      → CoversBut back gs (drop at queue) spots entrances → CoversBut back gs (drop (at + 1) queue) spots entrances
  without_exits queue at inst lt here none but =
      visited gs queue queue at inst lt here (subst (λ xs. Lowers back gs queue xs gs queue) (sym none) (lowers_none back gs queue)) but

  pub none_waits : (queue : List InstKey) (at : ℕ) → length queue ≤ at → CoversBut back gs (drop at queue) spots entrances → CoversNoted back gs spots entrances
  none_waits queue at le but = record {
    each_spot = but.each_spot;
    each_entrance = λ x h. ⊎_elim (λ a. a) (λ w. absurd (none_in x.from (subst (λ l. Contains l x.from) (drop_all at queue le) w))) (but.each_entrance x h);
  }

-- ---- one entrance more

pub entered : (back : ℕ) (es : Exited) (gs between new : Granted) (x : Entrance) (now : List InstKey) → Lowers back gs [] (x ∷ []) between now → IsSettled back es between now new
    → IsEntranceCovered back es gs x new
entered back es gs between new x now lowers settled spots entrances more has_more listed covers = settled spots more listed (record {
  each_spot = λ s h. spot_kept gs between lowers.more s lowers.lowered (covers.each_spot s h);
  each_entrance = λ y h. ⊎_elim (λ old. waiting y (entrance_kept back gs between lowers.more y lowers.lowered (covers.each_entrance y old)))
      (λ same. waiting y (lowers.met y (subst (Contains (x ∷ [])) (sym same) (first_in x [])))) ((has_more y).0 h);
})
  where
    waiting : (y : Entrance) → IsMet back between lowers.more y → IsMet back between now y
    waiting y met = subst (λ l. IsMet back between l y) (sym lowers.queued) met

-- ---- a spot more, with needs as they were

pub still_covers : (back : ℕ) (gs new : Granted) (spots : List Spot) (entrances : List Entrance) → IsLowered gs [] new → CoversNoted back gs spots entrances → CoversNoted back new spots entrances
still_covers back gs new spots entrances lowered covers = record {
  each_spot = λ s h. spot_kept gs new [] s lowered (covers.each_spot s h);
  each_entrance = λ x h. ⊎_elim (λ a. a) (λ w. absurd (none_in x.from w)) (entrance_kept back gs new [] x lowered (covers.each_entrance x h));
}

pub allowed_here : (gs new : Granted) (k : InstKey) (less : Allowance) → ((q : InstKey) → allowed new q ≡ cond (same_inst k q) (Some less) (allowed gs q)) → allowed new k ≡ Some less
allowed_here gs new k less up = up k ∙ ap (λ b. cond b (Some less) (allowed gs k)) ((keys_are_ordered.same_insts k k).1 refl)

pub if_ok : {X E : Type 0} (r : Result X E) (P Q : X → Type 0) → ((x : X) → P x → Q x) → IfOk r P → IfOk r Q
if_ok (Ok x) P Q all h = all x h
if_ok (Err e) P Q all h = tt
