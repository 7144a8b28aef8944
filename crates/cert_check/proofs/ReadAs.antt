-- Certificates read under a list that follows pairs if their own does not, or the other way round.
use Rattle.std.proofs.Common.{◌≡◌, refl, sym, ap, ◌∙◌, subst, ℕ, suc, ◌+◌, ◌<◌, ⊎_elim, Bool, true, false, List, [], ◌∷◌, ◌++◌, length, take, Option, Some, None, slice_get, Contains, get_or, arith}
use mathlib.Core.Bool.{beq}
use Rattle.std.specs.Prelude.{◌↔◌}
use Rattle.std.specs.Option.{option_map}
use Rattle.std.specs.List.{AllByRecursion}
use Rattle.std.specs.List.Sorted.{IsStrictlySortedBy}
use Rattle.std.specs.declared.cmp.Ordering.TheVariants.{Less}
use Rattle.std.proofs.lemmas.List.{take_more, get_or_default, map-append}
use Rattle.std.proofs.lemmas.Option.{none-some, same_Some, slice_get-map}
use Rattle.basics.specs.Items.{contained_at, place_of_contained, none_in, first_or_further}
use Rattle.avr_model.specs.declared.device.Device.{Device}
use Rattle.avr_model.specs.Assumptions.{has_pairs}
use Rattle.pair_domain.specs.declared.facts.PairFacts.{PairFacts}
use Rattle.pair_domain.specs.Facts.{is_followed}
use Rattle.pair_domain.specs.Intervals.{IsIntervalWithin}
use Rattle.pair_domain.specs.Rank.{KnownFits}
use Rattle.pair_domain.proofs.AllLaws.{intervals_are_ordered}
use Rattle.abs_state.specs.declared.values.AbsByte.{AbsByte}
use Rattle.abs_state.specs.declared.state.AbsState.{AbsState}
use Rattle.abs_state.specs.Values.{value_at}
use Rattle.abs_state.specs.Formed.{ByteFits}
use Rattle.abs_state.specs.Hulls.{AreInHulls}
use Rattle.node_keys.specs.declared.keys.NodeKey.{NodeKey}
use Rattle.node_keys.specs.Order.{node_cmp}
use Rattle.local_rules.specs.declared.local.Node.{Node}
use Rattle.local_rules.specs.Cover.{IsNodeIn}
use Rattle.edge_rules.specs.declared.seeded.NodeForm.{NodeForm}
use Rattle.edge_rules.specs.declared.seeded.NodeForm.TheVariants.{State, From}
use Rattle.edge_rules.specs.Expansion.{Seeds, AreSeeds, IsFilled, HasKeyAt}
use Rattle.edge_rules.specs.Seeds.{HasFormAt}
use Rattle.edge_rules.specs.Views.{index_of}
use Rattle.edge_rules.specs.Places.{not_itself, found_at}
use Rattle.edge_laws.specs.Expansions.{AreSeedsAscending}
use Rattle.edge_laws.proofs.ExpansionLaws.{filled_or_missing}
use Rattle.certificate.specs.Claims.{Claim, IsClaim, seed_keys}
use Rattle.certificate.proofs.AllLaws.{claims_are_seeds, hull_here, count_hulls, hull_fits}
use Rattle.cert_check.specs.Reading.{facts_read, read_state, read_form, read_seed, read_seeds, TellsNothing, IsOpen}
use Rattle.cert_check.specs.Demands.{AreBeside}
use Rattle.local_rules.specs.Site.{Task}

-- ---- states

read_mode : (followed : Bool) (registers : List AbsByte) (x : Option PairFacts) → is_followed (facts_read followed registers x) ≡ followed
read_mode false registers x = refl
read_mode true registers None = refl
read_mode true registers (Some f) = refl

read_fits : (followed : Bool) (registers : List AbsByte) (x : Option PairFacts) → ((r : ℕ) → r < 32 → ByteFits (value_at registers r)) → KnownFits x
    → KnownFits (facts_read followed registers x)
read_fits false registers x each h = tt
read_fits true registers None each h = record {
  count = count_hulls registers;
  intervals = λ n lt. hull_fits registers n lt each;
  sum = tt;
  compare = tt;
  zero = tt;
}
read_fits true registers (Some f) each h = h

read_in_hulls : (followed : Bool) (registers : List AbsByte) (x : Option PairFacts) → AreInHulls registers x → AreInHulls registers (facts_read followed registers x)
read_in_hulls false registers x h = tt
read_in_hulls true registers None h = λ n lt. subst (IsIntervalWithin _) (hull_here registers n lt) (intervals_are_ordered.same _)
read_in_hulls true registers (Some f) h = h

-- a node of the analysis, as read
pub read_node : {device : Device} {other : Bool} (followed : Bool) (k : NodeKey) (s : AbsState) → IsNodeIn device other k s → IsNodeIn device followed k (read_state followed s)
read_node followed k s h = record {
  word = h.word;
  small = h.small;
  masks = h.masks;
  fits = h.fits;
  pick = h.pick;
  formed = record {
    count_registers = h.formed.count_registers;
    registers = h.formed.registers;
    bit_7 = h.formed.bit_7;
    count_slots = h.formed.count_slots;
    slots = h.formed.slots;
    carry = h.formed.carry;
    ranges = h.formed.ranges;
    slot_ranges = h.formed.slot_ranges;
    facts = read_fits followed s.registers s.facts (λ r lt. h.formed.ranges r (omega (arith, lt))) h.formed.facts;
  };
  tags = record { registers = h.tags.registers; slots = h.tags.slots };
  carry_bytes = h.carry_bytes;
  untagged = λ root. let u = h.untagged root in record { registers = u.registers; entry = u.entry; carry = u.carry; slots = u.slots };
  registers_of = let b = h.registers_of in record { registers = b.registers; slots = b.slots; rampz = b.rampz; eind = b.eind };
  mode = read_mode followed s.registers s.facts;
  hulls = read_in_hulls followed s.registers s.facts h.hulls;
}

-- ---- the nodes of a certificate

pub keys_read : (followed : Bool) (own : Seeds) → seed_keys (read_seeds followed own) ≡ seed_keys own
keys_read followed [] = refl
keys_read followed (e ∷ es) = ap (λ ks. e.0 ∷ ks) (keys_read followed es)

length_read : (followed : Bool) (own : Seeds) → length (read_seeds followed own) ≡ length own
length_read followed [] = refl
length_read followed (e ∷ es) = ap suc (length_read followed es)

-- how the node of a number is given before and after reading
record IsReadAt (followed : Bool) (own : Seeds) (at : ℕ) (k : NodeKey) (form : NodeForm) : Type 0 where
  before : NodeForm
  is : slice_get own at ≡ Some (k, before)
  after : read_form followed before ≡ form

read_at : (followed : Bool) (own : Seeds) (at : ℕ) (k : NodeKey) (form : NodeForm) → slice_get (read_seeds followed own) at ≡ Some (k, form) → IsReadAt followed own at k form
read_at followed own at k form e = by (slice_get own at) refl (sym (slice_get-map (read_seed followed) own at) ∙ e)
  where
    by : (o : Option (NodeKey × NodeForm)) → slice_get own at ≡ o → option_map (read_seed followed) o ≡ Some (k, form) → IsReadAt followed own at k form
    by None is e = absurd (none-some (k, form) e)
    by (Some d) is e =
        let same : read_seed followed d ≡ (k, form) = same_Some (read_seed followed d) (k, form) e in
        record { before = d.1; is = is ∙ ap (λ j. Some (j, d.1)) (ap (λ p. p.0) same); after = ap (λ p. p.1) same }

own_form : (followed : Bool) (f : NodeForm) (t : AbsState) → read_form followed f ≡ State t → (s : AbsState) × ((f ≡ State s) × (read_state followed s ≡ t))
own_form followed (State s) t e = (s, (refl, cc))
own_form followed (From m) t e = absurd (cc)

from_form : (followed : Bool) (f : NodeForm) (m : ℕ) → read_form followed f ≡ From m → f ≡ From m
from_form followed (State s) m e = absurd (cc)
from_form followed (From l) m e = e

module _ (c : Claim) (claim : IsClaim c) where
  pub seeds_read : (followed : Bool) → AreSeeds c.device followed (read_seeds followed c.nodes)
  seeds_read followed =
      let seeds = claims_are_seeds c claim in
      record {
        few = omega (arith, length_read followed c.nodes, seeds.few);
        own = λ at k t e.
            let r = read_at followed c.nodes at k (State t) e in
            let f = own_form followed r.before t r.after in
            subst (IsNodeIn c.device followed k) f.1.1
            (read_node followed k f.0 (seeds.own at k f.0 (r.is ∙ ap (λ (g : NodeForm). Some (k, g)) f.1.0)));
        earlier = λ at m k e.
            let r = read_at followed c.nodes at k (From m) e in
            seeds.earlier at m k (r.is ∙ ap (λ (g : NodeForm). Some (k, g)) (from_form followed r.before m r.after));
      }

  pub ascending_read : (followed : Bool) → AreSeedsAscending (read_seeds followed c.nodes)
  ascending_read followed = subst (IsStrictlySortedBy node_cmp) (sym (keys_read followed c.nodes)) claim.nodes_ascend

  pub beside_read : (followed : Bool) (task : Task) (nodes : List Node) → IsFilled task (read_seeds followed c.nodes) nodes → AreBeside c.nodes nodes
  beside_read followed task nodes filled = filled_or_missing.keys task (read_seeds followed c.nodes) nodes filled ∙ keys_read followed c.nodes

-- ---- where the certificate's list follows pairs just as that which is handed in

facts_same : (registers : List AbsByte) (x : Option PairFacts) → facts_read (is_followed x) registers x ≡ x
facts_same registers None = refl
facts_same registers (Some f) = refl

form_same : (followed : Bool) (f : NodeForm) → ((s : AbsState) → f ≡ State s → is_followed s.facts ≡ followed) → read_form followed f ≡ f
form_same followed (State s) mode =
    ap (λ (x : Option PairFacts). State (record s { facts = x }))
    (ap (λ b. facts_read b s.registers s.facts) (sym (mode s refl)) ∙ facts_same s.registers s.facts)
form_same followed (From m) mode = refl

read_same : (followed : Bool) (own : Seeds) → ((at : ℕ) (k : NodeKey) (s : AbsState) → slice_get own at ≡ Some (k, State s) → is_followed s.facts ≡ followed)
    → read_seeds followed own ≡ own
read_same followed [] mode = refl
read_same followed (e ∷ es) mode =
    let first = form_same followed e.1 (λ s is. mode 0 e.0 s (ap (λ (f : NodeForm). Some (e.0, f)) is)) in
    let rest = read_same followed es (λ at k s is. mode (suc at) k s is) in
    λ i. (e.0, first i) ∷ rest i

plain_tells_nothing : (x : Option PairFacts) (s : AbsState) → s.facts ≡ x → is_followed x ≡ false → TellsNothing (State s)
plain_tells_nothing None s is plain = subst (λ (y : Option PairFacts). TellsNothing (State (record s { facts = y }))) (sym is) tt
plain_tells_nothing (Some f) s is plain = absurd (cc)

form_tells_nothing : (k : NodeKey) (form : NodeForm) → ((s : AbsState) → form ≡ State s → is_followed s.facts ≡ false) → TellsNothing form
form_tells_nothing k (State s) plain = plain_tells_nothing s.facts s refl (plain s refl)
form_tells_nothing k (From m) plain = tt

pub same_mode : (a b : Bool) → beq a b ≡ true → a ≡ b
same_mode true true e = refl
same_mode true false e = absurd (cc)
same_mode false true e = absurd (cc)
same_mode false false e = refl

module _ (c : Claim) (claim : IsClaim c) where
  mode_at : (at : ℕ) (k : NodeKey) (s : AbsState) → slice_get c.nodes at ≡ Some (k, State s) → is_followed s.facts ≡ has_pairs c.assumptions
  mode_at at k s e = ((claims_are_seeds c claim).own at k s e).mode

  pub own_is_read : read_seeds (has_pairs c.assumptions) c.nodes ≡ c.nodes
  own_is_read = read_same (has_pairs c.assumptions) c.nodes mode_at

  pub own_is_open : (k : NodeKey) → IsOpen (has_pairs c.assumptions) c.nodes k
  own_is_open k = by (has_pairs c.assumptions) refl
    where
      by : (followed : Bool) → has_pairs c.assumptions ≡ followed → IsOpen followed c.nodes k
      by true is = tt
      by false is = λ form h.
          let w = place_of_contained c.nodes (k, form) h in
          form_tells_nothing k form (λ s e. mode_at w.0 k s (w.1 ∙ ap (λ (f : NodeForm). Some (k, f)) e) ∙ is)

-- ---- which nodes are open

all_keys : (P : NodeKey → Type 0) (es : Seeds) (e : NodeKey × NodeForm) → AllByRecursion P (seed_keys es) → Contains es e → P e.0
all_keys P [] e h i = absurd (none_in e i)
all_keys P (x ∷ xs) e h i = ⊎_elim (λ same. subst (λ (y : NodeKey × NodeForm). P y.0) (sym same) h.0) (all_keys P xs e h.1) (first_or_further x e xs i)

one_seed : (es : Seeds) → AreSeedsAscending es → (d e : NodeKey × NodeForm) → Contains es d → Contains es e → d.0 ≡ e.0 → d ≡ e
unfolding IsStrictlySortedBy
one_seed [] s d e hd he same = absurd (none_in d hd)
one_seed (x ∷ xs) s d e hd he same =
    ⊎_elim
    (λ a. ⊎_elim (λ b. a ∙ sym b)
    (λ j. absurd (not_itself x.0 e.0 (all_keys (λ k. node_cmp x.0 k ≡ Less) xs e s.0 j) (subst (λ (z : NodeKey × NodeForm). z.0 ≡ e.0) a same)))
    (first_or_further x e xs he))
    (λ i. ⊎_elim (λ b. absurd (not_itself x.0 d.0 (all_keys (λ k. node_cmp x.0 k ≡ Less) xs d s.0 i) (sym (subst (λ (z : NodeKey × NodeForm). d.0 ≡ z.0) b same))))
    (λ j. one_seed xs s.1 d e i j same) (first_or_further x e xs he))
    (first_or_further x d xs hd)

-- the node of a number is open exactly if its own form has no facts on pairs
pub open_at : (own : Seeds) (at : ℕ) (k : NodeKey) (form : NodeForm) → AreSeedsAscending own → slice_get own at ≡ Some (k, form) → TellsNothing form ↔ IsOpen false own k
open_at own at k form ascend is = (
  λ t other h. subst TellsNothing (ap (λ (p : NodeKey × NodeForm). p.1) (one_seed own ascend (k, form) (k, other) (contained_at own at (k, form) is) h refl)) t,
  λ all. all form (contained_at own at (k, form) is),
)

-- the keys of the nodes are the certificate's own
pub key_beside : (own : Seeds) (nodes : List Node) (at : ℕ) (n : Node) → AreBeside own nodes → slice_get nodes at ≡ Some n → (form : NodeForm) × (slice_get own at ≡ Some (n.key, form))
key_beside own nodes at n beside is = by (slice_get own at) refl (sym (slice_get-map (λ e. e.0) own at) ∙ ap (λ ks. slice_get ks at) (sym beside) ∙ slice_get-map (λ (m : Node). m.key) nodes at ∙ ap (option_map (λ (m : Node). m.key)) is)
  where
    by : (o : Option (NodeKey × NodeForm)) → slice_get own at ≡ o → option_map (λ e. e.0) o ≡ Some n.key → (form : NodeForm) × (slice_get own at ≡ Some (n.key, form))
    by None e key = absurd (none-some n.key key)
    by (Some d) e key = (d.1, e ∙ ap (λ k. Some (k, d.1)) (same_Some d.0 n.key key))

pub key_found : (own : Seeds) (nodes : List Node) (k : NodeKey) (at : ℕ) → AreBeside own nodes → index_of k nodes ≡ Some at → HasKeyAt own at k
key_found own nodes k at beside found =
    let w = found_at k nodes at found in
    subst (HasKeyAt own at) w.same (key_beside own nodes at w.node beside w.is)

pub open_by_form : (followed : Bool) (own : Seeds) (at : ℕ) (k : NodeKey) (form : NodeForm) → followed ≡ false → AreSeedsAscending own → HasFormAt own at form → HasKeyAt own at k
    → TellsNothing form ↔ IsOpen followed own k
open_by_form followed own at k form plain ascend given has =
    let same : (given.0, form) ≡ (k, has.0) = same_Some (given.0, form) (k, has.0) (sym given.1 ∙ has.1) in
    subst (λ b. TellsNothing form ↔ IsOpen b own k) (sym plain)
    (open_at own at k form ascend (given.1 ∙ ap (λ j. Some (j, form)) (ap (λ (p : NodeKey × NodeForm). p.0) same)))

-- ---- the loop that reads the nodes, with one more

pub read_more : (followed : Bool) (own : Seeds) (at : ℕ) (d e : NodeKey × NodeForm) (form : NodeForm) (done new : Seeds) → at < length own
    → form ≡ read_form followed (get_or own at d).1 → done ≡ read_seeds followed (take at own) → new ≡ done ++ ((get_or own at e).0, form) ∷ []
    → new ≡ read_seeds followed (take (at + 1) own)
read_more followed own at d e form done new lt is_form before is =
    is ∙ ap (λ (l : Seeds). l ++ ((get_or own at e).0, form) ∷ []) before ∙ ap (λ (x : NodeKey × NodeForm). read_seeds followed (take at own) ++ x ∷ []) same
    ∙ sym (ap (read_seeds followed) (take_more own at d lt) ∙ map-append (read_seed followed) (take at own) (get_or own at d ∷ []))
  where
    same : ((get_or own at e).0, form) ≡ read_seed followed (get_or own at d)
    same = λ i. ((get_or_default own at e d lt i).0, is_form i)
