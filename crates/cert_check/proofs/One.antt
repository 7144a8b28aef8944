-- The verdict on a certificate is unique.
use Rattle.std.proofs.Common.{◌≡◌, ◌≢◌, refl, sym, ap, ◌∙◌, subst, ℕ, ◌<◌, ◌≤◌, ◌⊎◌, inl, inr, ⊎_elim, List, [], ◌∷◌, length, Some, Result, Err, slice_get, arith}
use Rattle.std.specs.Prelude.{◌↔◌}
use Rattle.std.specs.List.{AllByRecursion}
use Rattle.basics.specs.Numbers.{same_if_neither}
use Rattle.basics.specs.Items.{contained_at}
use Rattle.basics.specs.Lists.{one_at}
use Rattle.edge_rules.specs.Families.{AreFaultless}
use Rattle.avr_model.specs.declared.device.Device.{Device}
use Rattle.avr_model.proofs.AllLaws.{devices_are_alike}
use Rattle.avr_model.specs.declared.assumption.Entry.{Entry}
use Rattle.avr_model.specs.Assumptions.{has_pairs}
use Rattle.avr_model.specs.Run.{Bounded}
use Rattle.avr_model.specs.Devices.{device_of}
use Rattle.node_keys.specs.declared.keys.NodeKey.{NodeKey}
use Rattle.node_keys.specs.Keys.{root_inst}
use Rattle.node_keys.specs.Order.{node_cmp}
use Rattle.local_rules.specs.declared.local.Node.{Node}
use Rattle.local_rules.specs.declared.local.NodeFault.{NodeFault}
use Rattle.local_rules.specs.declared.local.Local.{Local}
use Rattle.local_rules.specs.Faults.{cause_of}
use Rattle.local_rules.specs.Raw.{Raw}
use Rattle.local_rules.specs.Local.{local, settled}
use Rattle.local_rules.specs.Machine.{AreWords}
use Rattle.edge_rules.specs.Edges.{IsFaultless, IsEdge, raw_of}
use Rattle.edge_rules.specs.Expansion.{Seeds, IsFilled, IsMissing}
use Rattle.edge_laws.proofs.ExpansionLaws.{filled_or_missing}
use Rattle.family_edges.specs.declared.worked.WorkedOut.{WorkedOut}
use Rattle.family_edges.specs.Landings.{AreLandings}
use Rattle.frame_laws.proofs.AllLaws.{sound_families_bound_every_run}
use Rattle.certificate.specs.declared.instance.Inst.{Inst}
use Rattle.certificate.specs.Insts.{IsInst, rank_in, need_in}
use Rattle.certificate.specs.Claims.{Claim, IsClaim}
use Rattle.certificate.specs.Valid.{AreRanked, Suffices, NeedsSuffice, MeetsConditions, IsSound, reset_node, family_of}
use Rattle.certificate.proofs.AllLaws.{conditions_make_families_sound, claims_are_seeds}
use Rattle.cert_check.specs.declared.verdict.Reason.{Reason}
use Rattle.cert_check.specs.declared.verdict.Reason.TheVariants as reason
use Rattle.cert_check.specs.declared.verdict.Judgement.{Judgement}
use Rattle.cert_check.specs.declared.verdict.Judgement.TheVariants.{Accepted, Rejected}
use Rattle.cert_check.specs.Reading.{read_seeds, IsOpen}
use Rattle.cert_check.specs.Verdict.{AllLanded, InstEnters, IsFirstFaultOfCause, IsFirstGap, IsFirstRank, IsFirstNeed, HasReset, IsLeastReason, IsRejected, IsReason, IsVerdict, IsFamilyOf, IsJudgement}
use Rattle.cert_check.specs.Laws.{VerdictsAreOne, SoundCertificatesBoundEveryRun}
use Rattle.cert_check.specs.Demands.{HasSmallNeed, AreInstances, Decides, need_at, rank_at, rank_of, need_of}
use Rattle.cert_check.proofs.ReadAs.{own_is_read, own_is_open}
use Rattle.cert_check.proofs.Insts.{one_number, rank_there, need_there}
use Rattle.cert_check.proofs.Covering.{key_antisymmetric}
use Rattle.local_rules.specs.Site.{Task}

needs_small : (device : Device) (xs : List Inst) → AllByRecursion (IsInst device) xs → AllByRecursion HasSmallNeed xs
needs_small device [] h = tt
needs_small device (x ∷ xs) h = (omega (arith, h.0.need, devices_are_alike.most_depth device), needs_small device xs h.1)

pub are_instances : (c : Claim) → IsClaim c → AreInstances c.instances
are_instances c h = record { fit = needs_small c.device c.instances h.insts_fit; ascend = h.insts_ascend; few = h.few_insts }

-- ---- faults

settled_err : (r : Raw) (fs : List NodeFault) (f : NodeFault) → settled r fs ≡ Err f → fs ≡ [] → ⊥
settled_err r [] f e is = cc
settled_err r (g ∷ fs) f e is = cc

fault_counts : (task : Task) (n : Node) (f : NodeFault) → local task n.key n.state ≡ Err f → IsFaultless task n → ⊥
unfolding local
fault_counts task n f e clean = settled_err (raw_of task n) (raw_of task n).faults f e clean

err_same : (r : Result Local NodeFault) (f g : NodeFault) → r ≡ Err f → r ≡ Err g → f ≡ g
err_same r f g a b = cc

-- ---- of two numbers the least

module _ (task : Task) (c : Claim) (claim : IsClaim c) (nodes : List Node) where
  rank_is : (j : ℕ) (x : Inst) → slice_get c.instances j ≡ Some x → rank_in c.instances x.key ≡ x.rank
  rank_is j x e =
      sym (rank_there c.instances x.key)
      ∙ (ap (rank_at c.instances) (one_number c.instances x.key j (are_instances c claim) (record { inst = x; is = e; same = refl })) ∙ ap rank_of e)

  need_is : (j : ℕ) (x : Inst) → slice_get c.instances j ≡ Some x → need_in c.instances x.key ≡ x.need
  need_is j x e =
      sym (need_there c.instances x.key)
      ∙ (ap (need_at c.instances) (one_number c.instances x.key j (are_instances c claim) (record { inst = x; is = e; same = refl })) ∙ ap need_of e)

  -- ---- a reason excludes the condition that it tells of

  not_clean : (j cause : ℕ) → IsFirstFaultOfCause task nodes j cause → AreFaultless task nodes → ⊥
  not_clean j cause h clean = fault_counts task h.node h.fault h.has (clean h.node (contained_at nodes j h.node h.is))

  not_landed : (j : ℕ) (to : NodeKey) → IsFirstGap task c.nodes nodes j to → AllLanded task c.nodes nodes → ⊥
  not_landed j to h land = h.gap (land h.node h.edge (contained_at nodes j h.node h.is) h.from)

  not_ranked : (j l : ℕ) → IsFirstRank task c nodes j l → AreRanked task c nodes → ⊥
  not_ranked j l h ranks =
      let e = h.enters in
      let lt = ranks h.from.key h.into.key e.depth e.edge in
      omega (arith, lt, rank_is l h.into h.there, rank_is j h.from h.is, h.low)

  not_enough : (j need : ℕ) → IsFirstNeed task c nodes j need → NeedsSuffice task c nodes → ⊥
  not_enough j need h enough =
      let le = h.least (need_in c.instances h.inst.key) (enough h.inst.key) in
      omega (arith, le, need_is j h.inst h.is, h.low)

  -- if all conditions hold, the list of the call is the certificate's own, so each node is open
  open_by : c.assumptions ≡ task.assumptions → (k : NodeKey) → IsOpen (has_pairs task.assumptions) c.nodes k
  open_by same k = subst (λ B. IsOpen (has_pairs B) c.nodes k) same (own_is_open c claim k)

  has_reset : MeetsConditions task c nodes → HasReset task.assumptions c nodes
  has_reset m = (m.reset, open_by m.assumptions (reset_node task.assumptions).key)

  all_landed : MeetsConditions task c nodes → AllLanded task c.nodes nodes
  all_landed m = λ n e h i. (m.edges n e h i, open_by m.assumptions e.to)

  -- ---- a reason's numbers are one

  fault_before : (i j a b : ℕ) → IsFirstFaultOfCause task nodes i a → IsFirstFaultOfCause task nodes j b → i < j → ⊥
  fault_before i j a b g h lt = fault_counts task g.node g.fault g.has (h.earlier i g.node g.is lt)

  one_fault : (i j a b : ℕ) → IsFirstFaultOfCause task nodes i a → IsFirstFaultOfCause task nodes j b → reason.Node i a ≡ reason.Node j b
  one_fault i j a b g h =
      let same : i ≡ j = same_if_neither i j (fault_before i j a b g h) (fault_before j i b a h g) in
      let node : g.node ≡ h.node = one_at nodes j g.node h.node (subst (λ k. slice_get nodes k ≡ Some g.node) same g.is) h.is in
      let fault : g.fault ≡ h.fault = err_same (local task h.node.key h.node.state) g.fault h.fault (subst (λ (n : Node). local task n.key n.state ≡ Err g.fault) node g.has) h.has in
      let cause : a ≡ b = sym g.which ∙ (ap cause_of fault ∙ h.which) in
      ap (λ k. reason.Node k a) same ∙ ap (λ k. reason.Node j k) cause

  gap_before : (i j : ℕ) (k l : NodeKey) → IsFirstGap task c.nodes nodes i k → IsFirstGap task c.nodes nodes j l → i < j → ⊥
  gap_before i j k l g h lt = g.gap (h.earlier i g.node g.edge g.is lt g.from)

  one_gap : (i j : ℕ) (k l : NodeKey) → IsFirstGap task c.nodes nodes i k → IsFirstGap task c.nodes nodes j l → reason.Edge i k ≡ reason.Edge j l
  one_gap i j k l g h =
      let same : i ≡ j = same_if_neither i j (gap_before i j k l g h) (gap_before j i l k h g) in
      let node : g.node ≡ h.node = one_at nodes j g.node h.node (subst (λ m. slice_get nodes m ≡ Some g.node) same g.is) h.is in
      let key : k ≡ l = key_antisymmetric k l
      (λ e. g.least h.edge (subst (λ n. IsEdge task nodes n h.edge) (sym node) h.from) h.gap (ap (λ z. node_cmp k z) h.leads ∙ e))
      (λ e. h.least g.edge (subst (λ n. IsEdge task nodes n g.edge) node g.from) g.gap (ap (λ z. node_cmp l z) g.leads ∙ e)) in
      ap (λ m. reason.Edge m k) same ∙ ap (λ m. reason.Edge j m) key

  rank_before : (i j k l : ℕ) → IsFirstRank task c nodes i k → IsFirstRank task c nodes j l → i < j → ⊥
  rank_before i j k l g h lt = let up = h.earlier i k g.from g.into g.is g.there lt g.enters in omega (arith, up, g.low)

  one_rank : (i j k l : ℕ) → IsFirstRank task c nodes i k → IsFirstRank task c nodes j l → reason.Rank i k ≡ reason.Rank j l
  one_rank i j k l g h =
      let same : i ≡ j = same_if_neither i j (rank_before i j k l g h) (rank_before j i l k h g) in
      let from : g.from ≡ h.from = one_at c.instances j g.from h.from (subst (λ m. slice_get c.instances m ≡ Some g.from) same g.is) h.is in
      let up = g.least l h.into h.there (subst (λ x. InstEnters task nodes x h.into) (sym from) h.enters) (subst (λ (x : Inst). x.rank ≤ h.into.rank) (sym from) h.low) in
      let down = h.least k g.into g.there (subst (λ x. InstEnters task nodes x g.into) from g.enters) (subst (λ (x : Inst). x.rank ≤ g.into.rank) from g.low) in
      let into : k ≡ l = omega (arith, up, down) in
      ap (λ m. reason.Rank m k) same ∙ ap (λ m. reason.Rank j m) into

  need_before : (i j k l : ℕ) → IsFirstNeed task c nodes i k → IsFirstNeed task c nodes j l → i < j → ⊥
  need_before i j k l g h lt = let le = g.least g.inst.need (h.earlier i g.inst g.is lt) in omega (arith, le, g.low)

  one_need : (i j k l : ℕ) → IsFirstNeed task c nodes i k → IsFirstNeed task c nodes j l → reason.Need i k ≡ reason.Need j l
  one_need i j k l g h =
      let same : i ≡ j = same_if_neither i j (need_before i j k l g h) (need_before j i l k h g) in
      let inst : g.inst ≡ h.inst = one_at c.instances j g.inst h.inst (subst (λ m. slice_get c.instances m ≡ Some g.inst) same g.is) h.is in
      let up = g.least l (subst (λ (x : Inst). Suffices task c nodes x.key l) (sym inst) h.enough) in
      let down = h.least k (subst (λ (x : Inst). Suffices task c nodes x.key k) inst g.enough) in
      let need : k ≡ l = omega (arith, up, down) in
      ap (λ m. reason.Need m k) same ∙ ap (λ m. reason.Need j m) need

  one_bound : (a b : ℕ) → a ≡ need_in c.instances root_inst → b ≡ need_in c.instances root_inst → reason.Bound a ≡ reason.Bound b
  one_bound a b e f = ap (λ m. reason.Bound m) (e ∙ sym f)

  alike : (r s : Reason) → r ≡ s → ◌≡◌ {A = Judgement ℕ} (Rejected r) (Rejected s)
  alike r s e = λ i. Rejected (e i)

  pub one_decided : (v w : Judgement ℕ) → Decides task c nodes v → Decides task c nodes w → v ≡ w
  one_decided (Rejected reason.Root) (Rejected reason.Root) a b = refl
  one_decided (Rejected reason.Root) (Rejected (reason.Node j' cause')) a b = absurd (a b.0)
  one_decided (Rejected reason.Root) (Rejected (reason.Edge j' to')) a b = absurd (a b.0)
  one_decided (Rejected reason.Root) (Rejected (reason.Rank j' l')) a b = absurd (a b.0)
  one_decided (Rejected reason.Root) (Rejected (reason.Need j' need')) a b = absurd (a b.0)
  one_decided (Rejected reason.Root) (Rejected (reason.Bound need')) a b = absurd (a b.0)
  one_decided (Rejected reason.Root) (Rejected reason.Assumptions) a b = absurd (a b.0)
  one_decided (Rejected reason.Root) (Accepted bound') a b = absurd (a (has_reset b.0))
  one_decided (Rejected reason.Root) (Rejected (reason.Expansion at')) a b = absurd b
  one_decided (Rejected reason.Root) (Rejected reason.Device) a b = absurd b
  one_decided (Rejected (reason.Node j cause)) (Rejected reason.Root) a b = absurd (b a.0)
  one_decided (Rejected (reason.Node j cause)) (Rejected (reason.Node j' cause')) a b = alike (reason.Node j cause) (reason.Node j' cause') (one_fault j j' cause cause' a.1 b.1)
  one_decided (Rejected (reason.Node j cause)) (Rejected (reason.Edge j' to')) a b = absurd (not_clean j cause a.1 b.1)
  one_decided (Rejected (reason.Node j cause)) (Rejected (reason.Rank j' l')) a b = absurd (not_clean j cause a.1 b.1)
  one_decided (Rejected (reason.Node j cause)) (Rejected (reason.Need j' need')) a b = absurd (not_clean j cause a.1 b.1)
  one_decided (Rejected (reason.Node j cause)) (Rejected (reason.Bound need')) a b = absurd (not_clean j cause a.1 b.1)
  one_decided (Rejected (reason.Node j cause)) (Rejected reason.Assumptions) a b = absurd (not_clean j cause a.1 b.1)
  one_decided (Rejected (reason.Node j cause)) (Accepted bound') a b = absurd (not_clean j cause a.1 b.0.faultless)
  one_decided (Rejected (reason.Node j cause)) (Rejected (reason.Expansion at')) a b = absurd b
  one_decided (Rejected (reason.Node j cause)) (Rejected reason.Device) a b = absurd b
  one_decided (Rejected (reason.Edge j to)) (Rejected reason.Root) a b = absurd (b a.0)
  one_decided (Rejected (reason.Edge j to)) (Rejected (reason.Node j' cause')) a b = absurd (not_clean j' cause' b.1 a.1)
  one_decided (Rejected (reason.Edge j to)) (Rejected (reason.Edge j' to')) a b = alike (reason.Edge j to) (reason.Edge j' to') (one_gap j j' to to' a.2 b.2)
  one_decided (Rejected (reason.Edge j to)) (Rejected (reason.Rank j' l')) a b = absurd (not_landed j to a.2 b.2)
  one_decided (Rejected (reason.Edge j to)) (Rejected (reason.Need j' need')) a b = absurd (not_landed j to a.2 b.2)
  one_decided (Rejected (reason.Edge j to)) (Rejected (reason.Bound need')) a b = absurd (not_landed j to a.2 b.2)
  one_decided (Rejected (reason.Edge j to)) (Rejected reason.Assumptions) a b = absurd (not_landed j to a.2 b.2)
  one_decided (Rejected (reason.Edge j to)) (Accepted bound') a b = absurd (not_landed j to a.2 (all_landed b.0))
  one_decided (Rejected (reason.Edge j to)) (Rejected (reason.Expansion at')) a b = absurd b
  one_decided (Rejected (reason.Edge j to)) (Rejected reason.Device) a b = absurd b
  one_decided (Rejected (reason.Rank j l)) (Rejected reason.Root) a b = absurd (b a.0)
  one_decided (Rejected (reason.Rank j l)) (Rejected (reason.Node j' cause')) a b = absurd (not_clean j' cause' b.1 a.1)
  one_decided (Rejected (reason.Rank j l)) (Rejected (reason.Edge j' to')) a b = absurd (not_landed j' to' b.2 a.2)
  one_decided (Rejected (reason.Rank j l)) (Rejected (reason.Rank j' l')) a b = alike (reason.Rank j l) (reason.Rank j' l') (one_rank j j' l l' a.3 b.3)
  one_decided (Rejected (reason.Rank j l)) (Rejected (reason.Need j' need')) a b = absurd (not_ranked j l a.3 b.3)
  one_decided (Rejected (reason.Rank j l)) (Rejected (reason.Bound need')) a b = absurd (not_ranked j l a.3 b.3)
  one_decided (Rejected (reason.Rank j l)) (Rejected reason.Assumptions) a b = absurd (not_ranked j l a.3 b.3)
  one_decided (Rejected (reason.Rank j l)) (Accepted bound') a b = absurd (not_ranked j l a.3 b.0.ranks)
  one_decided (Rejected (reason.Rank j l)) (Rejected (reason.Expansion at')) a b = absurd b
  one_decided (Rejected (reason.Rank j l)) (Rejected reason.Device) a b = absurd b
  one_decided (Rejected (reason.Need j need)) (Rejected reason.Root) a b = absurd (b a.0)
  one_decided (Rejected (reason.Need j need)) (Rejected (reason.Node j' cause')) a b = absurd (not_clean j' cause' b.1 a.1)
  one_decided (Rejected (reason.Need j need)) (Rejected (reason.Edge j' to')) a b = absurd (not_landed j' to' b.2 a.2)
  one_decided (Rejected (reason.Need j need)) (Rejected (reason.Rank j' l')) a b = absurd (not_ranked j' l' b.3 a.3)
  one_decided (Rejected (reason.Need j need)) (Rejected (reason.Need j' need')) a b = alike (reason.Need j need) (reason.Need j' need') (one_need j j' need need' a.4 b.4)
  one_decided (Rejected (reason.Need j need)) (Rejected (reason.Bound need')) a b = absurd (not_enough j need a.4 b.4)
  one_decided (Rejected (reason.Need j need)) (Rejected reason.Assumptions) a b = absurd (not_enough j need a.4 b.4)
  one_decided (Rejected (reason.Need j need)) (Accepted bound') a b = absurd (not_enough j need a.4 b.0.needs)
  one_decided (Rejected (reason.Need j need)) (Rejected (reason.Expansion at')) a b = absurd b
  one_decided (Rejected (reason.Need j need)) (Rejected reason.Device) a b = absurd b
  one_decided (Rejected (reason.Bound need)) (Rejected reason.Root) a b = absurd (b a.0)
  one_decided (Rejected (reason.Bound need)) (Rejected (reason.Node j' cause')) a b = absurd (not_clean j' cause' b.1 a.1)
  one_decided (Rejected (reason.Bound need)) (Rejected (reason.Edge j' to')) a b = absurd (not_landed j' to' b.2 a.2)
  one_decided (Rejected (reason.Bound need)) (Rejected (reason.Rank j' l')) a b = absurd (not_ranked j' l' b.3 a.3)
  one_decided (Rejected (reason.Bound need)) (Rejected (reason.Need j' need')) a b = absurd (not_enough j' need' b.4 a.4)
  one_decided (Rejected (reason.Bound need)) (Rejected (reason.Bound need')) a b = alike (reason.Bound need) (reason.Bound need') (one_bound need need' a.5 b.5)
  one_decided (Rejected (reason.Bound need)) (Rejected reason.Assumptions) a b = absurd (a.6 b.5)
  one_decided (Rejected (reason.Bound need)) (Accepted bound') a b = absurd (a.6 b.0.bounded)
  one_decided (Rejected (reason.Bound need)) (Rejected (reason.Expansion at')) a b = absurd b
  one_decided (Rejected (reason.Bound need)) (Rejected reason.Device) a b = absurd b
  one_decided (Rejected reason.Assumptions) (Rejected reason.Root) a b = absurd (b a.0)
  one_decided (Rejected reason.Assumptions) (Rejected (reason.Node j' cause')) a b = absurd (not_clean j' cause' b.1 a.1)
  one_decided (Rejected reason.Assumptions) (Rejected (reason.Edge j' to')) a b = absurd (not_landed j' to' b.2 a.2)
  one_decided (Rejected reason.Assumptions) (Rejected (reason.Rank j' l')) a b = absurd (not_ranked j' l' b.3 a.3)
  one_decided (Rejected reason.Assumptions) (Rejected (reason.Need j' need')) a b = absurd (not_enough j' need' b.4 a.4)
  one_decided (Rejected reason.Assumptions) (Rejected (reason.Bound need')) a b = absurd (b.6 a.5)
  one_decided (Rejected reason.Assumptions) (Rejected reason.Assumptions) a b = refl
  one_decided (Rejected reason.Assumptions) (Accepted bound') a b = absurd (a.6 b.0.assumptions)
  one_decided (Rejected reason.Assumptions) (Rejected (reason.Expansion at')) a b = absurd b
  one_decided (Rejected reason.Assumptions) (Rejected reason.Device) a b = absurd b
  one_decided (Accepted bound) (Rejected reason.Root) a b = absurd (b (has_reset a.0))
  one_decided (Accepted bound) (Rejected (reason.Node j' cause')) a b = absurd (not_clean j' cause' b.1 a.0.faultless)
  one_decided (Accepted bound) (Rejected (reason.Edge j' to')) a b = absurd (not_landed j' to' b.2 (all_landed a.0))
  one_decided (Accepted bound) (Rejected (reason.Rank j' l')) a b = absurd (not_ranked j' l' b.3 a.0.ranks)
  one_decided (Accepted bound) (Rejected (reason.Need j' need')) a b = absurd (not_enough j' need' b.4 a.0.needs)
  one_decided (Accepted bound) (Rejected (reason.Bound need')) a b = absurd (b.6 a.0.bounded)
  one_decided (Accepted bound) (Rejected reason.Assumptions) a b = absurd (b.6 a.0.assumptions)
  one_decided (Accepted bound) (Accepted bound') a b = ap (λ m. Accepted m) (a.1 ∙ sym b.1)
  one_decided (Accepted bound) (Rejected (reason.Expansion at')) a b = absurd b
  one_decided (Accepted bound) (Rejected reason.Device) a b = absurd b
  one_decided (Rejected (reason.Expansion at)) w a b = absurd a
  one_decided (Rejected reason.Device) w a b = absurd a

-- ---- the whole

-- a verdict on the expanded nodes
pub record IsOnNodes (task : Task) (c : Claim) (v : Judgement ℕ) : Type 0 where
  pub nodes : List Node
  pub filled : IsFilled task (read_seeds (has_pairs task.assumptions) c.nodes) nodes
  pub decides : Decides task c nodes v

abbrev pub IsOnMissing : Task → Claim → Judgement ℕ → Type 0
IsOnMissing task c v = (at : ℕ) × ((v ≡ Rejected (reason.Expansion at)) × IsMissing task (read_seeds (has_pairs task.assumptions) c.nodes) at)

-- the certificate is for another device
abbrev pub IsOnOther : Task → Claim → Judgement ℕ → Type 0
IsOnOther task c v = (v ≡ Rejected reason.Device) × (c.device ≢ device_of task.flash)

-- the certificate is for the device, and either a node has no expansion, or the verdict is on the expanded nodes
abbrev pub IsOnOwn : Task → Claim → Judgement ℕ → Type 0
IsOnOwn task c v = (c.device ≡ device_of task.flash) × (IsOnMissing task c v ⊎ IsOnNodes task c v)

on_rejected : (task : Task) (c : Claim) (r : Reason) → IsRejected task c r → IsOnOther task c (Rejected r) ⊎ IsOnOwn task c (Rejected r)
on_rejected task c r h = inr (h.device, inr (record { nodes = h.nodes; filled = h.expanded; decides = h.why }))

-- if the list of the call is the certificate's own, its nodes are read unchanged
as_own : (A : List Entry) (c : Claim) → IsClaim c → c.assumptions ≡ A → read_seeds (has_pairs A) c.nodes ≡ c.nodes
as_own A c claim same = ap (λ B. read_seeds (has_pairs B) c.nodes) (sym same) ∙ own_is_read c claim

pub split : (task : Task) (c : Claim) (v : Judgement ℕ) → IsClaim c → IsVerdict task c v → IsOnOther task c v ⊎ IsOnOwn task c v
split task c (Accepted bound) claim h = inr (
  h.0.meets.device,
  inr (record {
    nodes = h.0.nodes;
    filled = subst (λ (own : Seeds). IsFilled task own h.0.nodes) (sym (as_own task.assumptions c claim h.0.meets.assumptions)) h.0.expanded;
    decides = (h.0.meets, h.1);
  }),
)
split task c (Rejected reason.Device) claim h = inl (refl, h)
split task c (Rejected (reason.Expansion at)) claim h = inr (h.0, inl (at, (refl, h.1)))
split task c (Rejected reason.Root) claim h = on_rejected task c reason.Root h
split task c (Rejected (reason.Node j cause)) claim h = on_rejected task c (reason.Node j cause) h
split task c (Rejected (reason.Edge j to)) claim h = on_rejected task c (reason.Edge j to) h
split task c (Rejected (reason.Rank j l)) claim h = on_rejected task c (reason.Rank j l) h
split task c (Rejected (reason.Need j need)) claim h = on_rejected task c (reason.Need j need) h
split task c (Rejected (reason.Bound need)) claim h = on_rejected task c (reason.Bound need) h
split task c (Rejected reason.Assumptions) claim h = on_rejected task c reason.Assumptions h

pub refused : (task : Task) (c : Claim) (nodes : List Node) (r : Reason) → c.device ≡ device_of task.flash
    → IsFilled task (read_seeds (has_pairs task.assumptions) c.nodes) nodes → IsLeastReason task c nodes r → IsReason task c r
refused task c nodes reason.Device own f h = absurd h
refused task c nodes (reason.Expansion at) own f h = absurd h
refused task c nodes reason.Root own f h = record { device = own; nodes = nodes; expanded = f; why = h }
refused task c nodes (reason.Node j cause) own f h = record { device = own; nodes = nodes; expanded = f; why = h }
refused task c nodes (reason.Edge j to) own f h = record { device = own; nodes = nodes; expanded = f; why = h }
refused task c nodes (reason.Rank j l) own f h = record { device = own; nodes = nodes; expanded = f; why = h }
refused task c nodes (reason.Need j need) own f h = record { device = own; nodes = nodes; expanded = f; why = h }
refused task c nodes (reason.Bound need) own f h = record { device = own; nodes = nodes; expanded = f; why = h }
refused task c nodes reason.Assumptions own f h = record { device = own; nodes = nodes; expanded = f; why = h }

pub family_is : (task : Task) (c : Claim) (family : WorkedOut) → IsClaim c → IsFilled task (read_seeds (has_pairs task.assumptions) c.nodes) family.nodes
    → MeetsConditions task c family.nodes × AreLandings task family.nodes family.landings → IsFamilyOf task c family
family_is task c family claim f h =
    record { filled = subst (λ (own : Seeds). IsFilled task own family.nodes) (as_own task.assumptions c claim h.0.assumptions) f; meets = h.0; landings = h.1 }

pub few_in : (task : Task) (c : Claim) (j : Judgement WorkedOut) → IsClaim c → IsJudgement task c j → (family : WorkedOut) → j ≡ Accepted family
    → length family.nodes ≤ 65536
few_in task c j claim h family e =
    let f : IsFamilyOf task c family = subst (IsJudgement task c) e h in
    omega (arith, f.filled.count, (claims_are_seeds c claim).few)

-- two verdicts on a certificate for the device
one_own : (task : Task) (c : Claim) (v w : Judgement ℕ) → IsClaim c → IsOnMissing task c v ⊎ IsOnNodes task c v → IsOnMissing task c w ⊎ IsOnNodes task c w
    → v ≡ w
one_own task c v w claim a b =
    ⊎_elim
    (λ m. ⊎_elim
    (λ n. m.1.0 ∙ (ap (λ at. Rejected (reason.Expansion at)) (filled_or_missing.least task (read_seeds (has_pairs task.assumptions) c.nodes) m.0 n.0 m.1.1 n.1.1) ∙ sym n.1.0))
    (λ f. absurd (filled_or_missing.apart task (read_seeds (has_pairs task.assumptions) c.nodes) f.nodes m.0 f.filled m.1.1)) b)
    (λ f. ⊎_elim
    (λ n. absurd (filled_or_missing.apart task (read_seeds (has_pairs task.assumptions) c.nodes) f.nodes n.0 f.filled n.1.1))
    (λ g. one_decided task c claim f.nodes v w f.decides
    (subst (λ nodes. Decides task c nodes w) (filled_or_missing.one task (read_seeds (has_pairs task.assumptions) c.nodes) g.nodes f.nodes g.filled f.filled) g.decides)) b)
    a

one_split : (task : Task) (c : Claim) (v w : Judgement ℕ) → IsClaim c → IsOnOther task c v ⊎ IsOnOwn task c v → IsOnOther task c w ⊎ IsOnOwn task c w → v ≡ w
one_split task c v w claim (inl a) (inl b) = a.0 ∙ sym b.0
one_split task c v w claim (inl a) (inr b) = absurd (a.1 b.0)
one_split task c v w claim (inr a) (inl b) = absurd (b.1 a.0)
one_split task c v w claim (inr a) (inr b) = one_own task c v w claim a.1 b.1

pub verdicts_are_one : VerdictsAreOne
verdicts_are_one task c v w claim a b = one_split task c v w claim (split task c v claim a) (split task c w claim b)

pub sound_certificates_bound_every_run : SoundCertificatesBoundEveryRun
sound_certificates_bound_every_run task c have claim sound =
    sound_families_bound_every_run task (family_of c sound.nodes) have (conditions_make_families_sound task c sound.nodes claim sound.expanded sound.meets)

-- ---- what an exact verdict says

pub accepts : (task : Task) (c : Claim) (v : Judgement ℕ) → IsClaim c → IsVerdict task c v → (b : ℕ)
    → (v ≡ Accepted b) ↔ (IsSound task c × (b ≡ c.bound))
accepts task c v claim h b = (
  λ e. subst (IsVerdict task c) e h,
  λ s. verdicts_are_one task c v (Accepted b) claim h s,
)

pub rejects : (task : Task) (c : Claim) (v : Judgement ℕ) → IsClaim c → IsVerdict task c v → (r : Reason)
    → (v ≡ Rejected r) ↔ IsReason task c r
rejects task c v claim h r = (
  λ e. subst (IsVerdict task c) e h,
  λ s. verdicts_are_one task c v (Rejected r) claim h s,
)

pub bounds : (task : Task) (c : Claim) (v : Judgement ℕ) (b : ℕ) → AreWords task.flash → IsClaim c → IsVerdict task c v → v ≡ Accepted b
    → Bounded task.flash task.assumptions b
bounds task c v b have claim h e =
    let s = (accepts task c v claim h b).0 e in
    subst (Bounded task.flash task.assumptions) (sym s.1) (sound_certificates_bound_every_run task c have claim s.0)
