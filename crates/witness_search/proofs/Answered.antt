-- The answer of a search.
use Rattle.std.proofs.Common.{inl, refl, sym, ap, subst, ◌∙◌, ◌≡◌, ◌++◌, ℕ, List, [], Option, Some, None, IfSome, slice_get, Bor}
use Rattle.std.specs.Slice.{IsItemAt}
use Rattle.std.proofs.lemmas.List.{append-nil}
use Rattle.std.proofs.lemmas.Option.{slice_get_past}
use Rattle.avr_model.specs.Devices.{Image}
use Rattle.instance_graph.specs.declared.graph.GraphWay.{GraphWay}
use Rattle.node_keys.specs.Keys.{entry_key}
use Rattle.local_rules.specs.declared.local.Node.{Node}
use Rattle.edge_rules.specs.Edges.{entering}
use Rattle.edge_rules.specs.Expansion.{IsFilled}
use Rattle.instance_graph.specs.declared.graph.Link.{Link}
use Rattle.family_graph.specs.Graphs.{IsPeopled, AreRooted}
use Rattle.family_graph.specs.Chains.{IsDeepest}
use Rattle.witness_replay.specs.Spelling.{Plan}
use Rattle.certificate.specs.Claims.{Claim}
use Rattle.certificate.specs.Valid.{Attains, IsAttained, MeetsConditions}
use Rattle.witness_search.specs.declared.waypoint.Waypoint.{Waypoint}
use Rattle.witness_search.specs.Chains.{interrupt_at, interrupt_of, interrupts_of, AreInterrupts, AreWaypoints}
use Rattle.witness_search.specs.Trials.{IsFound}
use Rattle.local_rules.specs.Site.{Task}

pub attained_as : (task : Task) (bound : ℕ) (found : Option Plan) → IfSome found (Attains task bound) → IsAttained task bound found
attained_as task bound None h = tt
attained_as task bound (Some plan) h = h

-- without a node there is no interrupt
none_there : (image : Image) (o : Option Node) (depth : ℕ) (way : Option GraphWay) → o ≡ None → interrupt_at image o depth way ≡ []
none_there image None depth way e = refl
none_there image (Some n) depth way e = absurd cc

pub none_added : (image : Image) (nodes xs : List Node) (link : Link) (points : List Waypoint) (r : Option (Bor Node)) → IsItemAt xs link.node r → r ≡ None → xs ≡ nodes → points ≡ points ++ interrupt_of image nodes link
none_added image nodes xs link points r item none same =
    let past : IsItemAt xs link.node None = subst (λ (o : Option (Bor Node)). IsItemAt xs link.node o) none item in
    let away : slice_get nodes link.node ≡ None = subst (λ (ns : List Node). slice_get ns link.node ≡ None) same (slice_get_past xs link.node past.3) in
    sym (ap (λ (ws : List Waypoint). points ++ ws) (none_there image (slice_get nodes link.node) link.depth link.way away) ∙ append-nil points)

-- if the conditions hold, each entered instance has its first node
pub peopled : (task : Task) (c : Claim) (nodes : List Node) → MeetsConditions task c nodes → IsPeopled task nodes
peopled task c nodes meets n way into back has enters =
    let l = meets.edges n _ has (entering way into back enters) in
    (record { key = entry_key into; state = l.state }, (l.present, refl))

-- the interrupts of the chain, whose links are given by another list
pub interrupts_as : (task : Task) (nodes : List Node) → AreRooted task nodes → (need : ℕ) (links given : List Link) (points : List Waypoint)
    → IsDeepest task nodes need links → given ≡ links → points ≡ interrupts_of task.flash nodes given → AreInterrupts task nodes points
interrupts_as task nodes rooted need links given points deepest same are =
    inl record {
      rooted = rooted;
      need = need;
      links = links;
      deepest = deepest;
      are = are ∙ ap (interrupts_of task.flash nodes) same;
    }

-- the waypoints of a certificate's family are the certificate's
pub waypoints_as : (task : Task) (c : Claim) (nodes : List Node) (points : List Waypoint) → IsFilled task c.nodes nodes → AreInterrupts task nodes points
    → AreWaypoints task c points
waypoints_as task c nodes points filled interrupts = record { nodes = nodes; filled = filled; interrupts = interrupts }

-- the result of the trials along these waypoints
pub found_as : (task : Task) (c : Claim) (points given : List Waypoint) (bound : ℕ) (found : Option Plan) → AreWaypoints task c points → given ≡ points → bound ≡ c.bound
    → IsFound task given bound found → (ps : List Waypoint) × AreWaypoints task c ps × IsFound task ps c.bound found
found_as task c points given bound found are same is h =
    (points, are, subst (λ (b : ℕ). IsFound task points b found) is (subst (λ (ps : List Waypoint). IsFound task ps bound found) same h))
