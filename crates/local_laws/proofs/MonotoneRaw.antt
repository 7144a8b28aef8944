-- A lesser and a greater node: each successor of the lesser is a node, and below one of the greater.
use Rattle.std.proofs.Common.{◌≡◌, refl, sym, subst, ℕ, ◌<◌, ◌≤◌, ⊎_elim, Bool, true, false, cond, List, [], ◌∷◌, ◌++◌, map, filter, None, if◌then◌else◌, Contains, arith, ◌+◌}
use Rattle.std.proofs.lemmas.List.Elements.{Contains-append_left, Contains-append_right, Contains-append_cases}
use Rattle.basics.specs.Items.{none_in, first_in, further_in}
use Rattle.basics.specs.Lists.{both_empty}
use Rattle.avr_model.proofs.AllLaws.{devices_are_alike}
use Rattle.avr_model.specs.declared.device.Device.{Device}
use Rattle.avr_model.specs.Devices.{words_of, wrapped, limit_of}
use Rattle.bit_domain.specs.declared.bits.Tri.{Tri}
use Rattle.bit_domain.specs.declared.bits.Tri.TheVariants.{Zero, One, Any}
use Rattle.bit_domain.specs.Tri.{IsTriWithin}
use Rattle.abs_state.specs.declared.values.AbsByte.{AbsByte}
use Rattle.abs_state.specs.declared.values.AbsFlags.{AbsFlags}
use Rattle.abs_state.specs.declared.state.AbsState.{AbsState}
use Rattle.node_keys.specs.declared.keys.NodeKey.{NodeKey}
use Rattle.node_keys.specs.declared.keys.InstKey.{InstKey}
use Rattle.node_keys.specs.Keys.{offset_of}
use Rattle.local_rules.specs.declared.local.Node.{Node}
use Rattle.local_rules.specs.declared.local.CallSite.{CallSite}
use Rattle.local_rules.specs.declared.local.Exit.{Exit}
use Rattle.local_rules.specs.declared.local.NodeFault.{NodeFault}
use Rattle.local_rules.specs.declared.local.NodeFault.TheVariants.{UntrackedSp, TooDeep}
use Rattle.local_rules.specs.Raw.{Raw, nowhere, moves_to, one, fails, enters, leaves_by, untracked_if, too_deep_if, all_of, at_word, off_table, next, further, going_to, turning_to, going_on, setting}
use Rattle.local_rules.specs.Cover.{IsKey}
use Rattle.local_laws.proofs.Bare.{IsBare}
use Rattle.local_rules.specs.Order.{IsBelowOne}
use Rattle.local_laws.proofs.Members.{each_of, in_map, each_in_map, not_empty}
use Rattle.local_laws.proofs.MonotoneValues.{AreFlagsLess, AreRegistersLess, IsStateLess, less_within, less_node}
use Rattle.local_rules.specs.Site.{site_at}

-- ---- definitions

-- the node is one of the analysis, in this instance, and below one of these
pub record IsMetAbove (device : Device) (inst : InstKey) (nodes : List Node) (to : Node) : Type 0 where
  pub same : to.key.inst ≡ inst
  pub node : IsBare device to.key to.state
  pub below : IsBelowOne nodes to

pub record LeadsUpTo (device : Device) (inst : InstKey) (a b : Raw) : Type 0 where
  pub faultless : a.faults ≡ []
  pub moves : (to : Node) → Contains a.moves to → IsMetAbove device inst b.moves to
  pub calls : (site : CallSite) → Contains a.calls site → Contains b.calls site
  pub exit : a.exit ≡ b.exit

-- if the greater has no fault, the lesser has none and no more successors
abbrev pub LeadsLess : Device → InstKey → Raw → Raw → Type 0
LeadsLess device inst a b = b.faults ≡ [] → LeadsUpTo device inst a b

-- ---- faults

pub fails_less : {device : Device} (inst : InstKey) (a : Raw) (f : NodeFault) → LeadsLess device inst a (fails f)
fails_less inst a f e = absurd (not_empty f [] e)

pub too_deep_less : {device : Device} (inst : InstKey) (b : Bool) (pc offset : ℕ) (p q : Raw) → LeadsLess device inst p q → LeadsLess device inst (too_deep_if b pc offset p) (too_deep_if b pc offset q)
too_deep_less inst true pc offset p q h e = absurd (not_empty (TooDeep pc offset) q.faults e)
too_deep_less inst false pc offset p q h e = h e

pub untracked_less : {device : Device} (inst : InstKey) (b : Bool) (pc : ℕ) (p q : Raw) → LeadsLess device inst p q → LeadsLess device inst (untracked_if b pc p) (untracked_if b pc q)
untracked_less inst true pc p q h e = absurd (not_empty (UntrackedSp pc) q.faults e)
untracked_less inst false pc p q h e = h e

pub if_leads : {device : Device} (inst : InstKey) (b : Bool) (p p' q q' : Raw) → LeadsLess device inst p q → LeadsLess device inst p' q' → LeadsLess device inst (if b then p else p') (if b then q else q')
if_leads inst true p p' q q' h k = h
if_leads inst false p p' q q' h k = k

-- the first where the test holds
pub if_leads_where : {device : Device} (inst : InstKey) (b : Bool) (p p' q q' : Raw) → (b ≡ true → LeadsLess device inst p q) → LeadsLess device inst p' q'
    → LeadsLess device inst (if b then p else p') (if b then q else q')
if_leads_where inst true p p' q q' h k = h refl
if_leads_where inst false p p' q q' h k = k

-- ---- moves

abbrev pub nodes_at : {A : Type 0} → (A → NodeKey) → AbsState → List A → List Node
nodes_at f s xs = map (λ x. record { key = f x; state = s }) xs

-- a key of this instance, with this offset
pub record IsKeyPlace (device : Device) (inst : InstKey) (offset : ℕ) (k : NodeKey) : Type 0 where
  pub key : IsKey device k
  pub same : k.inst ≡ inst
  pub at : offset_of k.sp ≡ offset

place_node : {device : Device} (inst : InstKey) (offset : ℕ) (k : NodeKey) (s t : AbsState) → IsKeyPlace device inst offset k → IsStateLess inst.kind offset s t → IsBare device k s
place_node inst offset k s t at le =
    let same : IsStateLess k.inst.kind offset s t = subst (λ (i : InstKey). IsStateLess i.kind offset s t) (sym at.same) le in
    less_node k s t at.key.word at.key.small at.key.masks at.key.fits at.key.pick (subst (λ (n : ℕ). IsStateLess k.inst.kind n s t) (sym at.at) same)

pub several_less : {device : Device} {A : Type 0} (inst : InstKey) (offset : ℕ) (f : A → NodeKey) (s t : AbsState) (xs ys : List A)
    → ((x : A) → Contains xs x → Contains ys x) → ((x : A) → Contains ys x → IsKeyPlace device inst offset (f x)) → IsStateLess inst.kind offset s t
    → LeadsLess device inst (moves_to (nodes_at f s xs)) (moves_to (nodes_at f t ys))
several_less {device = device} {A = A} inst offset f s t xs ys more places le e =
    record {
      faultless = refl;
      moves = each_in_map (λ (x : A). record { key = f x; state = s }) (IsMetAbove device inst (nodes_at f t ys)) xs (λ x i. record {
        same = (places x (more x i)).same;
        node = place_node inst offset (f x) s t (places x (more x i)) le;
        below = record {
          state = t;
          present = in_map (λ (x : A). record { key = f x; state = t }) ys x (more x i);
          above = less_within inst.kind offset s t le;
        };
      });
      calls = λ site i. i;
      exit = refl;
    }

-- one node of the same instance
pub one_less : {device : Device} (k : NodeKey) (s t : AbsState) → IsKey device k → IsStateLess k.inst.kind (offset_of k.sp) s t → LeadsLess device k.inst (one k s) (one k t)
one_less {device = device} k s t at le =
    several_less k.inst (offset_of k.sp) (λ (x : NodeKey). x) s t (k ∷ []) (k ∷ []) (λ x i. i)
    (each_of (IsKeyPlace device k.inst (offset_of k.sp)) k [] (record { key = at; same = refl; at = refl }) (λ x i. absurd (none_in x i))) le

-- the second, the first, or both
abbrev pub choose : {A : Type 0} → Tri → A → A → List A
choose Zero x y = x ∷ []
choose One x y = y ∷ []
choose Any x y = x ∷ y ∷ []

pub choose_more : {A : Type 0} (t u : Tri) (x y z : A) → IsTriWithin t u → Contains (choose t x y) z → Contains (choose u x y) z
choose_more Zero Zero x y z le h = h
choose_more Zero One x y z le h = absurd (omega (arith, le 0 refl))
choose_more Zero Any x y z le h = each_of (Contains (x ∷ y ∷ [])) x [] (first_in x (y ∷ [])) (λ w i. absurd (none_in w i)) z h
choose_more One Zero x y z le h = absurd (omega (arith, le 1 refl))
choose_more One One x y z le h = h
choose_more One Any x y z le h = further_in x z (y ∷ []) h
choose_more Any Zero x y z le h = absurd (omega (arith, le 1 tt))
choose_more Any One x y z le h = absurd (omega (arith, le 0 tt))
choose_more Any Any x y z le h = h

pub choose_each : {A : Type 0} (P : A → Type 0) (t : Tri) (x y : A) → P x → P y → (z : A) → Contains (choose t x y) z → P z
choose_each P Zero x y p q = each_of P x [] p (λ z i. absurd (none_in z i))
choose_each P One x y p q = each_of P y [] q (λ z i. absurd (none_in z i))
choose_each P Any x y p q = each_of P x (y ∷ []) p (each_of P y [] q (λ z i. absurd (none_in z i)))

-- no successor is below any that only continues
pub nowhere_less : {device : Device} (inst : InstKey) (nodes : List Node) → LeadsLess device inst nowhere (moves_to nodes)
nowhere_less inst nodes e = record { faultless = refl; moves = λ to i. absurd (none_in to i); calls = λ site i. i; exit = refl }

-- ---- calls and returns

pub enters_less : {device : Device} (inst : InstKey) (xs ys : List CallSite) → ((x : CallSite) → Contains xs x → Contains ys x) → LeadsLess device inst (enters xs) (enters ys)
enters_less inst xs ys more e = record { faultless = refl; moves = λ to i. absurd (none_in to i); calls = more; exit = refl }

pub leaves_less : {device : Device} (inst : InstKey) (x : Exit) → LeadsLess device inst (leaves_by x) (leaves_by x)
leaves_less inst x e = record { faultless = refl; moves = λ to i. absurd (none_in to i); calls = λ site i. i; exit = refl }

-- ---- the moves and faults of several

pub met_left : {device : Device} (inst : InstKey) (xs ys : List Node) (to : Node) → IsMetAbove device inst xs to → IsMetAbove device inst (xs ++ ys) to
met_left inst xs ys to h =
    record {
      same = h.same;
      node = h.node;
      below = record { state = h.below.state; present = Contains-append_left xs ys (record { key = to.key; state = h.below.state }) h.below.present; above = h.below.above };
    }

pub met_right : {device : Device} (inst : InstKey) (xs ys : List Node) (to : Node) → IsMetAbove device inst ys to → IsMetAbove device inst (xs ++ ys) to
met_right inst xs ys to h =
    record {
      same = h.same;
      node = h.node;
      below = record { state = h.below.state; present = Contains-append_right xs ys (record { key = to.key; state = h.below.state }) h.below.present; above = h.below.above };
    }

pub above_first : {device : Device} (inst : InstKey) (nodes : List Node) (q : Raw) (qs : List Raw) → LeadsLess device inst (moves_to nodes) q → LeadsLess device inst (moves_to nodes) (all_of (q ∷ qs))
above_first inst nodes q qs h e =
    let none = both_empty q.faults (all_of qs).faults e in
    let a = h none.0 in
    record { faultless = refl; moves = λ to i. met_left inst q.moves (all_of qs).moves to (a.moves to i); calls = λ site i. i; exit = refl }

pub above_rest : {device : Device} (inst : InstKey) (nodes : List Node) (q : Raw) (qs : List Raw) → LeadsLess device inst (moves_to nodes) (all_of qs) → LeadsLess device inst (moves_to nodes) (all_of (q ∷ qs))
above_rest inst nodes q qs h e =
    let none = both_empty q.faults (all_of qs).faults e in
    let a = h none.1 in
    record { faultless = refl; moves = λ to i. met_right inst q.moves (all_of qs).moves to (a.moves to i); calls = λ site i. i; exit = refl }

pub none_less : {device : Device} (inst : InstKey) → LeadsLess device inst (all_of []) (all_of [])
none_less inst = nowhere_less inst []

pub no_calls : (rs : List Raw) → (all_of rs).calls ≡ []
no_calls [] = refl
no_calls (r ∷ rs) = refl

pub no_exit : (rs : List Raw) → (all_of rs).exit ≡ None
no_exit [] = refl
no_exit (r ∷ rs) = refl

pub both_less : {device : Device} (inst : InstKey) (p q : Raw) (ps qs : List Raw) → LeadsLess device inst p q → LeadsLess device inst (all_of ps) (all_of qs) → LeadsLess device inst (all_of (p ∷ ps)) (all_of (q ∷ qs))
both_less inst p q ps qs first rest e =
    let none = both_empty q.faults (all_of qs).faults e in
    let a = first none.0 in
    let b = rest none.1 in
    record {
      faultless = λ i. a.faultless i ++ b.faultless i;
      moves = λ to i. ⊎_elim
          (λ j. met_left inst q.moves (all_of qs).moves to (a.moves to j))
          (λ j. met_right inst q.moves (all_of qs).moves to (b.moves to j))
          (Contains-append_cases p.moves (all_of ps).moves to i);
      calls = λ site i. i;
      exit = refl;
    }

-- the greater has one more successor
pub more_less : {device : Device} (inst : InstKey) (q : Raw) (ps qs : List Raw) → LeadsLess device inst (all_of ps) (all_of qs) → LeadsLess device inst (all_of ps) (all_of (q ∷ qs))
more_less inst q ps qs rest e =
    let none = both_empty q.faults (all_of qs).faults e in
    let b = rest none.1 in
    record {
      faultless = b.faultless;
      moves = λ to i. met_right inst q.moves (all_of qs).moves to (b.moves to i);
      calls = subst (λ (xs : List CallSite). (site : CallSite) → Contains xs site → Contains [] site) (sym (no_calls ps)) (λ site i. i);
      exit = no_exit ps;
    }

-- the items that pass a test, if the greater's test is weaker
pub filtered_less : {device : Device} {A : Type 0} (inst : InstKey) (f g : A → Raw) (p q : A → Bool) (xs : List A)
    → ((x : A) → Contains xs x → LeadsLess device inst (f x) (g x)) → ((x : A) → Contains xs x → p x ≡ true → q x ≡ true)
    → LeadsLess device inst (all_of (map f (filter p xs))) (all_of (map g (filter q xs)))
filtered_less {device = device} inst f g p q [] each more = none_less inst
filtered_less {device = device} {A = A} inst f g p q (x ∷ xs) each more =
    by (filtered_less inst f g p q xs (λ y i. each y (further_in x y xs i)) (λ y i. more y (further_in x y xs i))) (p x) (q x) (more x (first_in x xs))
  where
    by : LeadsLess device inst (all_of (map f (filter p xs))) (all_of (map g (filter q xs))) → (a b : Bool) → (a ≡ true → b ≡ true)
        → LeadsLess device inst (all_of (map f (cond a (x ∷ filter p xs) (filter p xs)))) (all_of (map g (cond b (x ∷ filter q xs) (filter q xs))))
    by rest true true k = both_less inst (f x) (g x) (map f (filter p xs)) (map g (filter q xs)) (each x (first_in x xs)) rest
    by rest true false k = let e : false ≡ true = k refl in absurd (cc)
    by rest false true k = more_less inst (g x) (map f (filter p xs)) (map g (filter q xs)) rest
    by rest false false k = rest

-- ---- going on

-- a word of the device's flash is one of its texts
pub wrapped_small : (device : Device) (a : ℕ) → wrapped device a < limit_of device
wrapped_small device a = through (wrapped device a) (words_of device) (limit_of device) (devices_are_alike.inside device a) (devices_are_alike.in_limit device)
  where
    through : (x y z : ℕ) → x < y → y ≤ z → x < z
    through x y z lt le = omega arith

pub further_small : (device : Device) (k : NodeKey) (n : ℕ) → further device k n < limit_of device
further_small device k n = wrapped_small device (k.pc + n)

-- at another word
pub word_key : {device : Device} (k : NodeKey) (pc : ℕ) → IsKey device k → pc < limit_of device → IsKey device (at_word k pc)
word_key k pc at lt = record { word = lt; small = at.small; masks = at.masks; fits = at.fits; pick = at.pick }

-- at another word, without a pick
pub off_table_key : {device : Device} (k : NodeKey) (pc : ℕ) → IsKey device k → pc < limit_of device → IsKey device (off_table k pc)
off_table_key k pc at lt = record { word = lt; small = at.small; masks = at.masks; fits = at.fits; pick = tt }

pub next_key : (device : Device) (k : NodeKey) → IsKey device k → IsKey device (next device k)
next_key device k at = word_key k (further device k 1) at (further_small device k 1)

module _ (device : Device) (k : NodeKey) (at : IsKey device k) (s t : AbsState) (le : IsStateLess k.inst.kind (offset_of k.sp) s t) where
  pub going_less : (pc : ℕ) → pc < limit_of device → LeadsLess device k.inst (going_to k s pc) (going_to k t pc)
  going_less pc lt = one_less (at_word k pc) s t (word_key k pc at lt) le

  pub turning_less : (pc : ℕ) → pc < limit_of device → LeadsLess device k.inst (turning_to k s pc) (turning_to k t pc)
  turning_less pc lt = one_less (off_table k pc) s t (off_table_key k pc at lt) le

  pub on_less : LeadsLess device k.inst (going_on (site_at device k s)) (going_on (site_at device k t))
  on_less = going_less (further device k 1) (further_small device k 1)

  pub setting_less : (vs ws : List AbsByte) (f g : AbsFlags) → AreRegistersLess k.inst.kind vs ws → AreFlagsLess k.inst.kind f g
      → LeadsLess device k.inst (setting (site_at device k s) vs f) (setting (site_at device k t) ws g)
  setting_less vs ws f g values flags =
      one_less (next device k) (record s { registers = vs; flags = f }) (record t { registers = ws; flags = g }) (next_key device k at)
      (record { registers = values; flags = flags; slots = le.slots; facts = le.facts })
