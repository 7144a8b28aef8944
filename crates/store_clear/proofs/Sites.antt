-- The answers on nodes that may flag a step.
use Rattle.std.proofs.Common.{◌≡◌, refl, sym, ap, ◌∙◌, subst, ℕ, ◌+◌, ◌<◌, ◌≤◌, inr, ⊎_elim, Bool, true, false, List, [], length, replicate, Some, slice_get, Contains, arith}
use Rattle.std.specs.Prelude.{◌↔◌}
use Rattle.std.specs.Option.{option_map}
use Rattle.std.proofs.lemmas.Option.{slice_get_within}
use Rattle.basics.specs.Booleans.{never_both}
use Rattle.basics.specs.Items.{none_in, place_of_contained, contained_at}
use Rattle.basics.specs.Lists.{get_inside}
use Rattle.basics.specs.Numbers.{before_or_last}
use Rattle.store_clear.proofs.Marks.{none_on}
use Rattle.avr_model.specs.declared.assumption.Entry.{Entry}
use Rattle.avr_model.specs.Devices.{Image, device_of}
use Rattle.avr_model.specs.Vectors.{vector_word}
use Rattle.node_keys.specs.declared.keys.NodeKey.{NodeKey}
use Rattle.local_rules.specs.declared.local.Node.{Node}
use Rattle.edge_rules.specs.Views.{key_of}
use Rattle.certificate.specs.Claims.{Claim}
use Rattle.certificate.specs.Valid.{family_of}
use Rattle.clear_laws.specs.Clear.{IsClear, MayBeFlagged, NeverFlagged, word_of_flag}
use Rattle.clear_laws.specs.Reach.{is_on}
use Rattle.clear_laws.specs.declared.slots.Condition.{Condition}
use Rattle.clear_laws.specs.declared.verdict.ClearVerdict.{ClearVerdict}
use Rattle.clear_laws.specs.declared.verdict.ClearVerdict.TheVariants.{Clear, Unclear}
use Rattle.clear_laws.specs.CertificateLaws.{EndFlaggedAt, EndsByTakeAt}
use Rattle.clear_laws.specs.Verdict.{AreAllClear, IsFirstUnclear, IsClearVerdict, AreSites}
use Rattle.clear_laws.proofs.AllLaws.{clear_verdicts_are_one, none_where_clear}
use Rattle.store_clear.specs.Conditions.{condition_at, is_discharged, AreAllDischarged, IsFirstAt, HasConditionsLeft, IsWordOf, AreWordsMarked, places_of}
use Rattle.store_clear.specs.Causing.{AreSitesTold}
use Rattle.store_clear.proofs.Conditions.{key_is}
use Rattle.store_clear.proofs.Marked.{placed, placing, ascending}
use Rattle.local_rules.specs.Site.{Task, task_with, bare}

-- ---- the verdict

module _ (task : Task) (c : Claim) (nodes : List Node) (conditions : List Condition) (is : HasConditionsLeft task c nodes conditions) where
  clear_at : (at : ℕ) (n : Node) → slice_get nodes at ≡ Some n → is_discharged (condition_at conditions at) ≡ true → IsClear task (family_of c nodes) n
  clear_at at n e = (is.told.each at n e).0

  pub all_clear : AreAllDischarged conditions (length conditions) → AreAllClear task c
  all_clear passing =
      record {
        nodes = nodes;
        expanded = is.filled;
        clear = λ n has.
            let p = place_of_contained nodes n has in
            let lt = slice_get_within nodes p.0 n p.1 in
            clear_at p.0 n p.1 (passing p.0 (let same = is.told.count in omega (arith, lt, same)));
      }

  pub first_unclear : (at : ℕ) (k : NodeKey) → IsFirstAt conditions at → option_map key_of (slice_get nodes at) ≡ Some k → IsFirstUnclear task c at k.pc
  first_unclear at k first key =
      let lt : at < length nodes = let l = first.inside in let same = is.told.count in omega (arith, l, same) in
      let n = get_inside nodes at lt in
      record {
        nodes = nodes;
        expanded = is.filled;
        node = n.0;
        is = n.1;
        word = ap (λ (x : NodeKey). x.pc) (key_is nodes at n.0 n.1 k key);
        unclear = λ clear. never_both (is_discharged (condition_at conditions at)) ((is.told.each at n.0 n.1).1 clear) first.is;
        earlier = λ i m e l. clear_at i m e (first.earlier i l);
      }

  -- ---- the words

  module _ (old new : List Bool) (many : ℕ) (none : old ≡ replicate many false) (marked : AreWordsMarked nodes conditions (length conditions) old new) where
    flagged_down : (pc : ℕ) → Contains (places_of new) pc → MayBeFlagged task (family_of c nodes) pc
    flagged_down pc h =
        let w = placed 0 new pc h in
        let on : is_on new pc ≡ true = subst (λ x. is_on new x ≡ true) (let e = w.1.0 in omega (arith, e)) w.1.1 in
        ⊎_elim (λ o. absurd (never_both (is_on old pc) o (ap (λ (bs : List Bool). is_on bs pc) none ∙ none_on many pc))) (by pc) ((marked.exact pc).0 on)
      where
        by : (pc : ℕ) → IsWordOf nodes conditions (length conditions) pc → MayBeFlagged task (family_of c nodes) pc
        by pc w =
            record {
              node = w.node;
              present = contained_at nodes w.at w.node w.is;
              is = w.word;
              unclear = λ clear. never_both (is_discharged (condition_at conditions w.at)) ((is.told.each w.at w.node w.is).1 clear) w.fails;
            }

    listed_at : (at : ℕ) (n : Node) → slice_get nodes at ≡ Some n → is_discharged (condition_at conditions at) ≡ false → Contains (places_of new) n.key.pc
    listed_at at n e fails =
        let lt = slice_get_within nodes at n e in
        let below : at < length conditions = let same = is.told.count in omega (arith, lt, same) in
        let on = (marked.exact n.key.pc).1 (inr (record { at = at; node = n; below = below; is = e; fails = fails; word = refl })) in
        subst (Contains (places_of new)) (let same : 0 + n.key.pc ≡ n.key.pc = omega arith in same) (placing 0 new n.key.pc on)

    -- each node is clear, or its word is listed
    clear_or_listed : (n : Node) → Contains nodes n → (Contains (places_of new) n.key.pc → IsClear task (family_of c nodes) n) → IsClear task (family_of c nodes) n
    clear_or_listed n has given = by (is_discharged (condition_at conditions p.0)) refl
      where
        p : (i : ℕ) × (slice_get nodes i ≡ Some n)
        p = place_of_contained nodes n has

        by : (b : Bool) → is_discharged (condition_at conditions p.0) ≡ b → IsClear task (family_of c nodes) n
        by true e = clear_at p.0 n p.1 e
        by false e = given (listed_at p.0 n p.1 e)

    flagged_up : (pc : ℕ) → MayBeFlagged task (family_of c nodes) pc → Contains (places_of new) pc
    flagged_up pc m = by (is_discharged (condition_at conditions p.0)) refl
      where
        p : (i : ℕ) × (slice_get nodes i ≡ Some m.node)
        p = place_of_contained nodes m.node m.present

        by : (b : Bool) → is_discharged (condition_at conditions p.0) ≡ b → Contains (places_of new) pc
        by true e = absurd (m.unclear (clear_at p.0 m.node p.1 e))
        by false e = subst (Contains (places_of new)) m.is (listed_at p.0 m.node p.1 e)

    pub are_sites : AreSites task c (places_of new)
    are_sites = record { nodes = nodes; expanded = is.filled; ascending = ascending 0 new; exact = λ pc. (flagged_down pc, flagged_up pc) }

    pub clear_where_none : places_of new ≡ [] → AreAllClear task c
    clear_where_none e =
        record {
          nodes = nodes;
          expanded = is.filled;
          clear = λ n has. clear_or_listed n has (λ h. absurd (none_in n.key.pc (subst (λ (xs : List ℕ). Contains xs n.key.pc) e h)));
        }

-- ---- without assumptions

module _ (task : Task) (c : Claim) (nodes : List Node) (conditions given : List Condition) (nothing : task.assumptions ≡ []) (same : given ≡ conditions) (is : HasConditionsLeft task c nodes conditions) where
  told : HasConditionsLeft (bare task.flash) c nodes given
  told = subst (λ (B : List Entry). HasConditionsLeft (task_with task.flash B) c nodes given) nothing (subst (HasConditionsLeft task c nodes) (sym same) is)

  pub clear_told : AreAllDischarged given (length given) → IsClearVerdict task.flash c Clear
  clear_told passing = all_clear (bare task.flash) c nodes given told passing

  pub unclear_told : (at : ℕ) (k : NodeKey) → IsFirstAt given at → option_map key_of (slice_get nodes at) ≡ Some k → IsClearVerdict task.flash c (Unclear at k.pc)
  unclear_told at k first key = first_unclear (bare task.flash) c nodes given told at k first key

-- ---- what follows

module _ (image : Image) (c : Claim) (verdict : ClearVerdict) (is : IsClearVerdict image c verdict) where
  pub clear_both : (verdict ≡ Clear) ↔ AreAllClear (bare image) c
  clear_both = (λ e. subst (IsClearVerdict image c) e is, λ all. clear_verdicts_are_one image c verdict Clear is all)

  pub unclear_both : (j pc : ℕ) → (verdict ≡ Unclear j pc) ↔ IsFirstUnclear (bare image) c j pc
  unclear_both j pc = (λ e. subst (IsClearVerdict image c) e is, λ first. clear_verdicts_are_one image c verdict (Unclear j pc) is first)

-- if all are read behind references
pub sites_told : (nodes : List Node) (conditions : List Condition) (old first new last : List Bool) (many : ℕ) (sites : List ℕ) → old ≡ replicate many false → first ≡ old
    → AreWordsMarked nodes conditions (length conditions) first new → last ≡ new → sites ≡ places_of last → AreSitesTold nodes conditions sites
sites_told nodes conditions old first new last many sites none begins marked ends are task c told = (
  sites_given,
  (λ e. clear_where_none task c nodes conditions told first new many (begins ∙ none) marked (sym places_are ∙ e), λ all. none_where_clear task c sites sites_given all),
)
  where
    places_are : sites ≡ places_of new
    places_are = are ∙ ap places_of ends

    sites_given : AreSites task c sites
    sites_given = subst (AreSites task c) (sym places_are) (are_sites task c nodes conditions told first new many (begins ∙ none) marked)

pub never_flagged : (task : Task) (sites : List ℕ) → EndFlaggedAt task sites [] → sites ≡ [] → NeverFlagged task
never_flagged task sites law e m choices flag reset run ends =
    ⊎_elim (λ h. none_in (word_of_flag flag) (subst (λ (xs : List ℕ). Contains xs (word_of_flag flag)) e h))
    (λ (t : EndsByTakeAt task [] m choices). none_in (vector_word (device_of task.flash) t.vector) t.word) (law m choices flag reset run ends)

-- ---- one after the other

pub passing_more : (conditions : List Condition) (at : ℕ) → AreAllDischarged conditions at → is_discharged (condition_at conditions at) ≡ true → AreAllDischarged conditions (at + 1)
passing_more conditions at so is i lt = ⊎_elim (λ l. so i l) (λ e. subst (λ k. is_discharged (condition_at conditions k) ≡ true) (sym e) is) (before_or_last i at lt)

pub passing_all : (conditions : List Condition) (at : ℕ) → AreAllDischarged conditions at → length conditions ≤ at → AreAllDischarged conditions (length conditions)
passing_all conditions at so le i lt = so i (omega (arith, lt, le))
