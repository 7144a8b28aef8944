-- Allowances cover the notes.
use Rattle.std.proofs.Common.{◌≡◌, refl, sym, ap, ◌∙◌, subst, inl, inr, ⊎_elim, Bool, true, false, cond, Option, Some, None, List, [], ℕ, ◌+◌, ◌<◌, ◌≤◌, arith}
use Rattle.avr_model.specs.declared.device.Device.{Device}
use Rattle.avr_model.specs.Devices.{device_of, size_of, back_of}
use Rattle.round_laws.proofs.AllLaws.{reached_lower}
use Rattle.node_keys.specs.declared.keys.InstKey.{InstKey}
use Rattle.node_keys.specs.Order.{same_inst}
use Rattle.node_keys.proofs.AllLaws.{keys_are_ordered}
use Rattle.round_rules.specs.Rounds.{IsEntering, AreRanks}
use Rattle.round_nesting.specs.declared.allowances.Allowance.{Allowance}
use Rattle.round_nesting.specs.declared.verdict.NestingVerdict.TheVariants.{Nests}
use Rattle.round_nesting.specs.Nestings.{Spot, Entrance, Noted, TellsAll}
use Rattle.round_nesting.specs.Drawn.{AreOthersApart, HasMore}
use Rattle.round_nesting.specs.Exits.{Exited, AreListed, IsExitAdded}
use Rattle.round_nesting.specs.Covers.{Granted, allowed, AllowsRoot, AllowsSpot, AllowsEntrance, CoversNoted, AreAllowancesKept, IsCoverKept}
use Rattle.round_nesting.specs.Lowering.{IsLowered, IsEntranceCovered}
use Rattle.round_nesting.proofs.Lowering.{still_covers}

-- ---- one allowance more

-- an instance without an allowance gets one
pub one_kept : (gs new : Granted) (k : InstKey) (most : Allowance) → None ≡ allowed gs k → ((q : InstKey) → allowed new q ≡ cond (same_inst k q) (Some most) (allowed gs q))
    → AreAllowancesKept gs new
one_kept gs new k most none up inst there is = by (same_inst k inst) refl
  where
    by : (b : Bool) → same_inst k inst ≡ b → allowed new inst ≡ Some there
    by true e = absurd (let same : k ≡ inst = (keys_are_ordered.same_insts k inst).0 e in let never : None ≡ Some there = none ∙ ap (allowed gs) same ∙ is in cc)
    by false e = up inst ∙ ap (λ b. cond b (Some most) (allowed gs inst)) e ∙ is

-- ---- what a nesting keeps

pub kept_inst : (covered : Bool) (back : ℕ) (gs : Granted) (es : Exited) (others more : List InstKey) (spots : List Spot) (entrances : List Entrance)
    → IsCoverKept covered back gs es others spots entrances → AreOthersApart more → IsCoverKept covered back gs es more spots entrances
kept_inst covered back gs es others more spots entrances kept apart = record { apart = apart; listed = kept.listed; covers = kept.covers }

-- nothing is claimed of the allowances
pub uncovered : (back : ℕ) (gs : Granted) (es : Exited) (others : List InstKey) (spots : List Spot) (entrances : List Entrance) → AreOthersApart others → AreListed es entrances
    → IsCoverKept false back gs es others spots entrances
uncovered back gs es others spots entrances apart listed = record { apart = apart; listed = listed; covers = λ t. absurd (cc) }

covers_spot : (back : ℕ) (gs : Granted) (spots new : List Spot) (entrances : List Entrance) (s : Spot) → AllowsSpot gs s → HasMore spots s new → CoversNoted back gs spots entrances
    → CoversNoted back gs new entrances
covers_spot back gs spots new entrances s allows more covers = record {
  each_spot = λ x h. ⊎_elim (λ old. covers.each_spot x old) (λ same. subst (AllowsSpot gs) (sym same) allows) ((more x).0 h);
  each_entrance = covers.each_entrance;
}

still_allows : (back : ℕ) (gs new : Granted) (x : Entrance) → AreAllowancesKept gs new → AllowsEntrance back gs x → AllowsEntrance back new x
still_allows back gs new x kept a = record { from = a.from; into = a.into; is_from = kept x.from a.from a.is_from; is_into = kept x.into a.into a.is_into; need = a.need }

covers_kept : (back : ℕ) (gs new : Granted) (spots : List Spot) (entrances : List Entrance) → AreAllowancesKept gs new → CoversNoted back gs spots entrances → CoversNoted back new spots entrances
covers_kept back gs new spots entrances kept covers = record {
  each_spot = λ s h. let a = covers.each_spot s h in record { most = a.most; is = kept s.inst a.most a.is; fits = a.fits; low = a.low };
  each_entrance = λ x h. still_allows back gs new x kept (covers.each_entrance x h);
}

pub listed_more : (es new : Exited) (entrances more : List Entrance) (x : Entrance) → AreListed es entrances → IsExitAdded es x new → HasMore entrances x more → AreListed new more
listed_more es new entrances more x listed added has_more y h = added y (⊎_elim (λ old. inl (listed y old)) (λ same. inr same) ((has_more y).0 h))

module _ (covered : Bool) (back : ℕ) (gs : Granted) (es : Exited) (others : List InstKey) (spots : List Spot) (entrances : List Entrance)
    (kept : IsCoverKept covered back gs es others spots entrances) where
  pub kept_spot : (still : Bool) (new : Granted) (s : Spot) (now : List InstKey) (more : List Spot) → AreOthersApart now → HasMore spots s more
      → (still ≡ true → (covered ≡ true) × AllowsSpot new s × IsLowered gs [] new) → IsCoverKept still back new es now more entrances
  kept_spot still new s now more apart has_more held = record {
    apart = apart;
    listed = kept.listed;
    covers = λ t. covers_spot back new spots more entrances s (held t).1 has_more (still_covers back gs new spots entrances (held t).2 (kept.covers (held t).0));
  }

  pub kept_entrance : (left new : Granted) (now : Exited) (still : Bool) (x : Entrance) (more : List Entrance) → AreAllowancesKept gs left → IsExitAdded es x now → HasMore entrances x more
      → (still ≡ true → (covered ≡ true) × IsEntranceCovered back now left x new) → IsCoverKept still back new now others spots more
  kept_entrance left new now still x more keeps added has_more held =
      let listed = listed_more es now entrances more x kept.listed added has_more in
      record {
        apart = kept.apart;
        listed = listed;
        covers = λ t. (held t).1 spots entrances more has_more listed (covers_kept back gs left spots entrances keeps (kept.covers (held t).0));
      }

-- ---- what is covered nests

abbrev need_in : Option Allowance → ℕ
need_in None = 0
need_in (Some a) = a.need

pub nests : (device : Device) (back : ℕ) (gs : Granted) (n : Noted) → 0 < back → back_of device ≤ back → AllowsRoot gs (size_of device) → CoversNoted back gs n.spots n.entrances → TellsAll device n Nests
nests device back gs n some enough root covers task f sized there nesting = (
  λ i reaches. let lt = reached_lower task f need are_ranks i i reaches in omega (arith, lt),
  record {
    need = need;
    are = record {
      offsets = λ node offset has closed.
          let a = covers.each_spot (record { inst = node.key.inst; offset = offset })
          ((nesting.spots (record { inst = node.key.inst; offset = offset })).1 (record { node = node; has = has; of = refl; closed = closed })) in
          subst (λ (o : Option Allowance). offset ≤ need_in o) (sym a.is) (omega (arith, a.fits, a.low));
      entered = λ i j offset e.
          let a = allows i j offset e in
          subst (λ (o : Option Allowance). offset + back_of (device_of task.flash) + need_in o ≤ need i) (sym a.is_into)
          (subst (λ (o : Option Allowance). offset + back_of (device_of task.flash) + a.into.need ≤ need_in o) (sym a.is_from)
          (omega (arith, a.need, enough, ap back_of sized)));
    };
    small = let le = subst (λ (o : Option Allowance). need_in o ≤ size_of device) (sym root.is) root.fits in omega (arith, le, ap size_of sized);
  },
)
  where
    need : InstKey → ℕ
    need i = need_in (allowed gs i)

    allows : (i j : InstKey) (offset : ℕ) → IsEntering task f i j offset → AllowsEntrance back gs (record { from = i; into = j; offset = offset })
    allows i j offset e = covers.each_entrance (record { from = i; into = j; offset = offset }) ((nesting.entrances (record { from = i; into = j; offset = offset })).1 e)

    are_ranks : AreRanks task f need
    are_ranks i j offset e =
        let a = allows i j offset e in
        subst (λ (o : Option Allowance). need_in o < need i) (sym a.is_into)
        (subst (λ (o : Option Allowance). a.into.need < need_in o) (sym a.is_from) (omega (arith, a.need, some)))
