-- The listed demands of a node's edges are exactly the node's.
use Rattle.std.proofs.Common.{◌≡◌, refl, sym, subst, ℕ, ◌+◌, ◌<◌, ⊎_elim, Bool, true, false, cond, List, [], ◌∷◌, ◌++◌, length, Option, Some, None, Contains}
use Rattle.std.specs.List.{flat_map}
use Rattle.std.proofs.lemmas.List.Elements.{Contains-append_left, Contains-append_right, Contains-append_cases}
use Rattle.std.proofs.lemmas.Option.{slice_get_within}
use Rattle.basics.specs.Items.{only_one_in, contained_in_join, each_of_join, none_in, first_in}
use Rattle.avr_model.specs.Devices.{device_of, back_of}
use Rattle.node_keys.specs.declared.keys.EdgeKind.{EdgeKind}
use Rattle.node_keys.specs.declared.keys.InstKey.{InstKey}
use Rattle.node_keys.specs.declared.keys.SpForm.{SpForm}
use Rattle.node_keys.specs.declared.keys.SpForm.TheVariants.{Closed, Open}
use Rattle.node_keys.specs.Keys.{root_inst, offset_of, cut_at}
use Rattle.local_rules.specs.declared.local.Node.{Node}
use Rattle.edge_rules.specs.declared.edge.Edge.{Edge}
use Rattle.edge_rules.specs.Edges.{is_entry, Enters, by_call, by_interrupt, IsEdge, moving, entering, returning, AreEdges}
use Rattle.edge_rules.specs.Families.{IsCovered}
use Rattle.certificate.specs.declared.instance.Inst.{Inst}
use Rattle.certificate.specs.Insts.{inst_keys}
use Rattle.certificate.specs.Valid.{AllLand}
use Rattle.cert_check.specs.declared.demand.Demand.{Demand}
use Rattle.cert_check.specs.Demands.{AreInstances, number_in, demand_below, offset_demand, recur_demand, unless_cut, entry_demand, demands_of, AsksFor, offset, entry, recur, AreDemands, AllBelong, IsInside, AreDemandsInside}
use Rattle.cert_check.proofs.Insts.{has_number}
use Rattle.local_rules.specs.Site.{Task}

module _ (task : Task) (insts : List Inst) (n : Node) where
  from_offset : (form : SpForm) → n.key.sp ≡ form → (d : Demand) → Contains (offset_demand (number_in insts n.key.inst) form) d → AsksFor task insts n d
  from_offset (Closed o) e d h = subst (AsksFor task insts n) (sym (only_one_in (record { inst = number_in insts n.key.inst; into = None; bytes = o }) d h)) (offset o e)
  from_offset (Open o high) e d h = absurd (none_in d h)

  -- an edge into another instance is an entry of it
  pub record WayIn (e : Edge) : Type 0 where
    pub way : EdgeKind
    pub inst : InstKey
    pub back : ℕ
    pub enters : Enters task n way inst back
    pub same : e.to.inst ≡ inst

  way_in : (nodes : List Node) (e : Edge) → IsEdge task nodes n e → is_entry e.kind ≡ true → WayIn e
  way_in nodes _ (moving to clean has) is = absurd (cc)
  way_in nodes _ (entering way inst back enters) is = record { way = way; inst = inst; back = back; enters = enters; same = refl }
  way_in nodes _ (returning way inst back leaver x state enters present same clean exit after) is = absurd (cc)

  from_recur : (cut : Option ℕ) → cut_at task.assumptions n.key.inst ≡ cut → (d : Demand) → Contains (recur_demand (back_of (device_of task.flash)) insts n.key.inst cut) d → AsksFor task insts n d
  from_recur None is d h = absurd (none_in d h)
  from_recur (Some depth) is d h = subst (AsksFor task insts n) (sym (only_one_in _ d h)) (recur depth is)

  -- the demand of an entry of this instance
  abbrev below : InstKey → Demand
  below inst = demand_below insts (number_in insts n.key.inst) (offset_of n.key.sp + back_of (device_of task.flash)) inst

  whole_by : (e : Edge) → WayIn e → (cut : Option ℕ) → cut_at task.assumptions e.to.inst ≡ cut → (d : Demand) → Contains (unless_cut cut (below e.to.inst ∷ [])) d → AsksFor task insts n d
  whole_by e w (Some depth) is d h = absurd (none_in d h)
  whole_by e w None is d h =
      let whole : cut_at task.assumptions w.inst ≡ None = subst (λ (x : InstKey). cut_at task.assumptions x ≡ None) w.same is in
      let asks : AsksFor task insts n (below e.to.inst) = subst (λ (x : InstKey). AsksFor task insts n (below x)) (sym w.same) (entry w.way w.inst w.back w.enters whole) in
      subst (AsksFor task insts n) (sym (only_one_in _ d h)) asks

  entry_by : (e : Edge) (b : Bool) → (b ≡ true → WayIn e) → (d : Demand) → Contains (cond b (unless_cut (cut_at task.assumptions e.to.inst) (below e.to.inst ∷ [])) []) d
      → AsksFor task insts n d
  entry_by e true way d h = whole_by e (way refl) (cut_at task.assumptions e.to.inst) refl d h
  entry_by e false way d h = absurd (none_in d h)

  is_way : (way : EdgeKind) (inst : InstKey) (back : ℕ) → Enters task n way inst back → is_entry way ≡ true
  is_way _ _ _ (by_call o site clean form has) = refl
  is_way _ _ _ (by_interrupt o v clears clean form i delay enabled allowed clearable) = refl

  module _ (nodes : List Node) (edges : List Edge) (are : AreEdges task nodes n edges) where
    abbrev own : List Demand
    own = offset_demand (number_in insts n.key.inst) n.key.sp

    abbrev root_own : List Demand
    root_own = recur_demand (back_of (device_of task.flash)) insts n.key.inst (cut_at task.assumptions n.key.inst)

    abbrev by_edge : Edge → List Demand
    by_edge = entry_demand task.assumptions insts (number_in insts n.key.inst) (offset_of n.key.sp + back_of (device_of task.flash))

    pub listed_asks : (d : Demand) → Contains (demands_of task insts n.key edges) d → AsksFor task insts n d
    listed_asks d h =
        ⊎_elim (from_offset n.key.sp refl d)
        (λ more. ⊎_elim (from_recur (cut_at task.assumptions n.key.inst) refl d)
        (each_of_join by_edge (AsksFor task insts n) edges (λ e x i j. entry_by e (is_entry e.kind) (way_in nodes e ((are e).0 i)) x j) d)
        (Contains-append_cases root_own (flat_map by_edge edges) d more))
        (Contains-append_cases own (root_own ++ flat_map by_edge edges) d h)

    pub asked_listed : (d : Demand) → AsksFor task insts n d → Contains (demands_of task insts n.key edges) d
    asked_listed _ (offset o e) =
        let d : Demand = record { inst = number_in insts n.key.inst; into = None; bytes = o } in
        Contains-append_left own (root_own ++ flat_map by_edge edges) d
        (subst (λ form. Contains (offset_demand (number_in insts n.key.inst) form) d) (sym e) (first_in d []))
    asked_listed _ (recur depth cut) =
        let d : Demand = demand_below insts (number_in insts root_inst) (depth + back_of (device_of task.flash)) n.key.inst in
        Contains-append_right own (root_own ++ flat_map by_edge edges) d
        (Contains-append_left root_own (flat_map by_edge edges) d
        (subst (λ (o : Option ℕ). Contains (recur_demand (back_of (device_of task.flash)) insts n.key.inst o) d) (sym cut) (first_in d [])))
    asked_listed _ (entry way inst back enters whole) =
        let d : Demand = below inst in
        let here : Contains (unless_cut (cut_at task.assumptions inst) (d ∷ [])) d = subst (λ (o : Option ℕ). Contains (unless_cut o (d ∷ [])) d) (sym whole) (first_in d []) in
        Contains-append_right own (root_own ++ flat_map by_edge edges) d
        (Contains-append_right root_own (flat_map by_edge edges) d
        (contained_in_join by_edge edges _ d ((are _).1 (entering way inst back enters)) (rw (is_way way inst back enters) here)))

-- the instance of an edge's landing is in the list
pub landed_belongs : (insts : List Inst) (nodes : List Node) (n : Node) → AllBelong insts nodes → IsCovered nodes n → Contains (inst_keys insts) n.key.inst
landed_belongs insts nodes n belong h = belong (record { key = n.key; state = h.state }) h.present

-- the instance on which a node makes a demand
abbrev pub owner : {task : Task} {insts : List Inst} (n : Node) (d : Demand) → AsksFor task insts n d → InstKey
owner n _ (offset o e) = n.key.inst
owner n _ (entry way inst back e whole) = n.key.inst
owner n _ (recur depth cut) = root_inst

module _ (task : Task) (insts : List Inst) (nodes : List Node) (are : AreInstances insts) (belong : AllBelong insts nodes)
    (root : Contains (inst_keys insts) root_inst) (land : AllLand task nodes) where
  pub entered_belongs : (n : Node) (way : EdgeKind) (inst : InstKey) (back : ℕ) → Contains nodes n → Enters task n way inst back
      → Contains (inst_keys insts) inst
  entered_belongs n way inst back h enters = landed_belongs insts nodes _ belong (land n _ h (entering way inst back enters))

  number_inside : (k : InstKey) → Contains (inst_keys insts) k → number_in insts k < length insts
  number_inside k h = let p = has_number insts k are h in slice_get_within insts (number_in insts k) p.inst p.is

  asks_inside : (n : Node) (d : Demand) → Contains nodes n → AsksFor task insts n d → IsInside insts d
  asks_inside n _ h (offset o e) = (number_inside n.key.inst (belong n h), λ l is. absurd (cc))
  asks_inside n _ h (entry way inst back enters whole) = (
    number_inside n.key.inst (belong n h),
    λ l is. let same : number_in insts inst ≡ l = cc in
        subst (λ x. x < length insts) same (number_inside inst (entered_belongs n way inst back h enters)),
  )
  asks_inside n _ h (recur depth cut) = (
    number_inside root_inst root,
    λ l is. let same : number_in insts n.key.inst ≡ l = cc in
        subst (λ x. x < length insts) same (number_inside n.key.inst (belong n h)),
  )

  pub all_inside : (demands : List Demand) → AreDemands task insts nodes demands → AreDemandsInside insts demands
  all_inside demands asked = λ d h. let w = (asked d).0 h in asks_inside w.node d w.present w.asks
