-- Notes with one more item.
use Rattle.std.proofs.Common.{◌≡◌, true, false, Option, sym, ap, ◌∙◌, subst, ℕ, ◌+◌, ◌<◌, inl, inr, ⊎_elim, get_or, take, length, List, [], ◌∷◌, ◌++◌, Some, None, Contains}
use Rattle.std.specs.Prelude.{◌↔◌}
use Rattle.std.proofs.lemmas.List.{take_more}
use Rattle.std.proofs.lemmas.List.Elements.{Contains-append_left, Contains-push, Contains-push_cases}
use Rattle.basics.specs.Items.{none_in}
use Rattle.std.specs.Option.{is_some}
use Rattle.avr_model.specs.declared.assumption.Entry.{Entry}
use Rattle.node_keys.specs.Keys.{root_inst, cut_at}
use Rattle.node_keys.specs.declared.keys.InstKey.{InstKey}
use Rattle.node_keys.specs.declared.keys.NodeKey.{NodeKey}
use Rattle.local_rules.specs.declared.local.Exit.{Exit}
use Rattle.family_edges.specs.declared.ways.Way.{Way}
use Rattle.round_table.specs.declared.crossings.Crossing.{Crossing}
use Rattle.round_table.specs.Crossings.{Groups, IsCrossingAdded}
use Rattle.round_nesting.specs.Nestings.{Noted, Entrance, IsNodeNoted, HasEntrance}
use Rattle.round_steps.specs.declared.looking.Look.{Look}
use Rattle.round_steps.specs.declared.noting.Notes.{Notes}
use Rattle.round_steps.specs.Notings.{AnyHas, Besides, HasCrossing, caller, leaver, entrance, CallsBy, EntersBy, EnterBy, RecursBy, HasCallers, HasLeaver, HasEntrances, CallsAt, LeavesAt, InstAt, SpotAt, EntersAt, IsNoted, AreNoted}

pub pushed : {X : Type 0} (xs : List X) (i : ℕ) (x : X) → i < length xs → x ≡ get_or xs i x → take (i + 1) xs ≡ take i xs ++ x ∷ []
pushed xs i x lt is = take_more xs i x lt ∙ ap (λ y. take i xs ++ y ∷ []) (sym is)

none_has : {X Y : Type 0} (P : X → Y → Type 0) (y : Y) → AnyHas [] P y → ⊥
none_has P y h = none_in h.one h.member

pub besides_none : {X Y : Type 0} (old : Y → Type 0) (P : X → Y → Type 0) → Besides old (AnyHas [] P) old
besides_none old P y = (λ o. inl o, λ s. ⊎_elim (λ o. o) (λ h. absurd (none_has P y h)) s)

pub besides_more : {X Y : Type 0} (old mid new : Y → Type 0) (xs : List X) (x : X) (P : X → Y → Type 0) → Besides old (AnyHas xs P) mid → Besides mid (P x) new
    → Besides old (AnyHas (xs ++ x ∷ []) P) new
besides_more old mid new xs x P a b y = (
  λ n. ⊎_elim
      (λ m. ⊎_elim (λ o. inl o) (λ h. inr (record { one = h.one; member = Contains-append_left xs (x ∷ []) h.one h.member; has = h.has })) ((a y).0 m))
      (λ p. inr (record { one = x; member = Contains-push xs x; has = p })) ((b y).0 n),
  λ s. ⊎_elim (λ o. (b y).1 (inl ((a y).1 (inl o))))
      (λ h. ⊎_elim (λ i. (b y).1 (inl ((a y).1 (inr (record { one = h.one; member = i; has = h.has })))))
      (λ e. (b y).1 (inr (subst (λ z. P z y) (sym e) h.has))) (Contains-push_cases xs x h.one h.member)) s,
)

-- ---- who enters and who leaves

pub callers_more : (old mid new : Groups) (k : NodeKey) (ws : List Way) (w : Way) → HasCallers old k ws mid → IsCrossingAdded mid w.inst (caller k w) new
    → HasCallers old k (ws ++ w ∷ []) new
callers_more old mid new k ws w a b =
    besides_more (HasCrossing old) (HasCrossing mid) (HasCrossing new) ws w (CallsBy k) a
    (λ y. (
      λ n. ⊎_elim (λ m. inl m) (λ e. inr (λ j. (e.0 j, e.1 j))) ((b y.0 y.1).0 n),
      λ s. (b y.0 y.1).1 (⊎_elim (λ m. inl m) (λ e. inr (ap (λ (z : InstKey × Crossing). z.0) e, ap (λ (z : InstKey × Crossing). z.1) e)) s),
    ))

pub leaver_none : (old : Groups) (k : NodeKey) → HasLeaver old k None old
leaver_none old k y = (λ o. inl o, λ s. ⊎_elim (λ o. o) (λ p. absurd (let e = p.0 in cc)) s)

pub leaver_some : (old new : Groups) (k : NodeKey) (x : Exit) → IsCrossingAdded old k.inst (leaver k x) new → HasLeaver old k (Some x) new
leaver_some old new k x b y = (
  λ n. ⊎_elim (λ m. inl m)
      (λ e. let same : x ≡ y.1.exit = sym (ap (λ (p : Crossing). p.exit) e.1) in
      inr (ap Some same, λ j. (e.0 j, (e.1 ∙ ap (leaver k) same) j))) ((b y.0 y.1).0 n),
  λ s. (b y.0 y.1).1 (⊎_elim (λ m. inl m)
      (λ p. let same : x ≡ y.1.exit = some_exit x y.1.exit p.0 in
      inr (ap (λ (z : InstKey × Crossing). z.0) p.1, ap (λ (z : InstKey × Crossing). z.1) p.1 ∙ ap (leaver k) (sym same))) s),
)
  where
    some_exit : (a b : Exit) → Some a ≡ Some b → a ≡ b
    some_exit a b e = cc

-- ---- how instances nest

-- no entrance comes besides
pub entrances_kept : (old : Noted) (more : Entrance → Type 0) → ((e : Entrance) → more e → ⊥) → HasEntrances old more old
entrances_kept old more never =
    record { insts = λ i. (λ h. h, λ h. h); spots = λ s. (λ h. h, λ h. h); entrances = λ e. (λ h. inl h, ⊎_elim (λ h. h) (λ m. absurd (never e m))) }

-- one comes besides
pub entrance_added : (old new : Noted) (x : Entrance) (more : Entrance → Type 0) → ((e : Entrance) → e ≡ x → more e) → ((e : Entrance) → more e → e ≡ x) → HasEntrance old x new
    → HasEntrances old more new
entrance_added old new x more to from a = record {
  insts = a.insts;
  spots = a.spots;
  entrances = λ e. (λ h. ⊎_elim (λ before. inl before) (λ same. inr (to e same)) ((a.entrances e).0 h), λ s. (a.entrances e).1 (⊎_elim (λ before. inl before) (λ m. inr (from e m)) s));
}

-- the entrance of an instance that is cut, or isn't
pub enters_none : (A : List Entry) (old : Noted) (k : NodeKey) (into : InstKey) (cut : Option ℕ) → cut_at A into ≡ cut → is_some cut ≡ true → HasEntrances old (EntersBy A k into) old
enters_none A old k into None is some = absurd (cc)
enters_none A old k into (Some depth) is some = entrances_kept old (EntersBy A k into) (λ e h. let n = h.0 in cc)

pub enters_one : (A : List Entry) (old new : Noted) (k : NodeKey) (into : InstKey) (cut : Option ℕ) → cut_at A into ≡ cut → is_some cut ≡ false → HasEntrance old (entrance k into) new
    → HasEntrances old (EntersBy A k into) new
enters_one A old new k into (Some depth) is some a = absurd (cc)
enters_one A old new k into None is some a = entrance_added old new (entrance k into) (EntersBy A k into) (λ e same. (is, same)) (λ e h. h.1) a

-- the recur edge
pub recurs_none : (A : List Entry) (old : Noted) (inst : InstKey) → cut_at A inst ≡ None → HasEntrances old (RecursBy A inst) old
recurs_none A old inst is = entrances_kept old (RecursBy A inst) (λ e h. let n = h.0 in cc)

pub recurs_one : (A : List Entry) (old new : Noted) (inst : InstKey) (depth : ℕ) → cut_at A inst ≡ Some depth → HasEntrance old (record { from = root_inst; into = inst; offset = depth }) new
    → HasEntrances old (RecursBy A inst) new
recurs_one A old new inst depth is a =
    entrance_added old new (record { from = root_inst; into = inst; offset = depth }) (RecursBy A inst)
    (λ e same. let deep : depth ≡ e.offset = sym (ap (λ (x : Entrance). x.offset) same) in
    (is ∙ ap Some deep, same ∙ ap (λ (d : ℕ). record { from = root_inst; into = inst; offset = d }) deep))
    (λ e h. let deep : e.offset ≡ depth = some_same e.offset depth (sym h.0 ∙ is) in
    h.1 ∙ ap (λ (d : ℕ). record { from = root_inst; into = inst; offset = d }) deep) a
  where
    some_same : (a b : ℕ) → Some a ≡ Some b → a ≡ b
    some_same a b e = cc

pub entrances_none : (A : List Entry) (old : Noted) (k : NodeKey) → HasEntrances old (EnterBy A k []) old
entrances_none A old k = record { insts = λ i. (λ h. h, λ h. h); spots = λ s. (λ h. h, λ h. h); entrances = besides_none (Contains old.entrances) (λ w. EntersBy A k w.inst) }

both_ways : {P Q R : Type 0} → P ↔ Q → Q ↔ R → P ↔ R
both_ways a b = (λ p. b.0 (a.0 p), λ r. a.1 (b.1 r))

pub entrances_more : (A : List Entry) (old mid new : Noted) (k : NodeKey) (ws : List Way) (w : Way) → HasEntrances old (EnterBy A k ws) mid → HasEntrances mid (EntersBy A k w.inst) new
    → HasEntrances old (EnterBy A k (ws ++ w ∷ [])) new
entrances_more A old mid new k ws w a b = record {
  insts = λ i. both_ways (b.insts i) (a.insts i);
  spots = λ s. both_ways (b.spots s) (a.spots s);
  entrances = besides_more (Contains old.entrances) (Contains mid.entrances) (Contains new.entrances) ws w (λ v. EntersBy A k v.inst) a.entrances b.entrances;
}

-- ---- looks

pub noted_one : (A : List Entry) (old : Notes) (x : Look) (callers leavers : Groups) (mid cut nesting : Noted) (ws : List Way) → ws ≡ x.ways.items → HasCallers old.callers x.key ws callers
    → HasLeaver old.leavers x.key x.part.exit leavers → IsNodeNoted old.nesting x.key mid → HasEntrances mid (RecursBy A x.key.inst) cut → HasEntrances cut (EnterBy A x.key ws) nesting
    → IsNoted A old x (record { callers = callers; leavers = leavers; nesting = nesting })
noted_one A old x callers leavers mid cut nesting ws is c l n r e = record {
  callers = subst (λ (v : List Way). HasCallers old.callers x.key v callers) is c;
  leavers = l;
  insts = λ i. both_ways (e.insts i) (both_ways (r.insts i) (n.insts i));
  spots = λ s. both_ways (e.spots s) (both_ways (r.spots s) (n.spots s));
  entrances = let es : Besides (Contains cut.entrances) (EnterBy A x.key x.ways.items) (Contains nesting.entrances) =
      subst (λ (v : List Way). Besides (Contains cut.entrances) (EnterBy A x.key v) (Contains nesting.entrances)) is e.entrances in
      λ y. (
        λ h. ⊎_elim (λ m. ⊎_elim (λ o. inl ((n.entrances y).0 o)) (λ q. inr (inl q)) ((r.entrances y).0 m)) (λ a. inr (inr a)) ((es y).0 h),
        λ s. (es y).1 (⊎_elim (λ o. inl ((r.entrances y).1 (inl ((n.entrances y).1 o)))) (λ q. ⊎_elim (λ b. inl ((r.entrances y).1 (inr b))) (λ a. inr a) q) s),
      );
}

pub noted_none : (A : List Entry) (old : Notes) → AreNoted A old [] old
noted_none A old = record {
  callers = besides_none (HasCrossing old.callers) CallsAt;
  leavers = besides_none (HasCrossing old.leavers) LeavesAt;
  insts = besides_none (Contains old.nesting.insts) InstAt;
  spots = besides_none (Contains old.nesting.spots) SpotAt;
  entrances = besides_none (Contains old.nesting.entrances) (EntersAt A);
}

pub noted_more : (A : List Entry) (old mid new : Notes) (xs : List Look) (x : Look) → AreNoted A old xs mid → IsNoted A mid x new → AreNoted A old (xs ++ x ∷ []) new
noted_more A old mid new xs x a b = record {
  callers = besides_more (HasCrossing old.callers) (HasCrossing mid.callers) (HasCrossing new.callers) xs x CallsAt a.callers b.callers;
  leavers = besides_more (HasCrossing old.leavers) (HasCrossing mid.leavers) (HasCrossing new.leavers) xs x LeavesAt a.leavers b.leavers;
  insts = besides_more (Contains old.nesting.insts) (Contains mid.nesting.insts) (Contains new.nesting.insts) xs x InstAt a.insts b.insts;
  spots = besides_more (Contains old.nesting.spots) (Contains mid.nesting.spots) (Contains new.nesting.spots) xs x SpotAt a.spots b.spots;
  entrances = besides_more (Contains old.nesting.entrances) (Contains mid.nesting.entrances) (Contains new.nesting.entrances) xs x (EntersAt A) a.entrances b.entrances;
}
