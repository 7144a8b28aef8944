-- The waypoints of a certificate: the interrupts of the deepest chain of its family, with the least needs. Source: own.
use Rattle.std.specs.Prelude.{ℕ, ◌≡◌, ◌⊎◌, List, [], ◌∷◌, Option, Some, slice_get}
use Rattle.std.specs.List.{flat_map}
use Rattle.avr_model.specs.Devices.{Image, device_of, ramend}
use Rattle.node_keys.specs.declared.keys.EdgeKind.TheVariants.{Interrupt}
use Rattle.local_rules.specs.declared.local.Node.{Node}
use Rattle.edge_rules.specs.Expansion.{IsFilled}
use Rattle.instance_graph.specs.declared.graph.Link.{Link}
use Rattle.instance_graph.specs.declared.graph.GraphWay.{GraphWay}
use Rattle.instance_graph.specs.declared.graph.GraphWay.TheVariants.{Enters}
use Rattle.family_graph.specs.Graphs.{AreRooted}
use Rattle.family_graph.specs.Chains.{IsDeepest}
use Rattle.certificate.specs.Claims.{Claim}
use Rattle.witness_search.specs.declared.waypoint.Waypoint.{Waypoint}
use Rattle.local_rules.specs.Site.{Task}

-- the interrupt by which a chain leaves a node, at this depth below the beginning of the device's stack
abbrev pub interrupt_at : Image → Option Node → ℕ → Option GraphWay → List Waypoint
interrupt_at image (Some n) depth (Some (Enters (Interrupt v clears))) =
    record { pc = n.key.pc; masks = n.key.masks; depth = depth; end = ramend (device_of image); vector = v; clears = clears } ∷ []
interrupt_at image _ depth way = []

abbrev pub interrupt_of : Image → List Node → Link → List Waypoint
interrupt_of image nodes link = interrupt_at image (slice_get nodes link.node) link.depth link.way

-- the interrupts of a chain, in their order
abbrev pub interrupts_of : Image → List Node → List Link → List Waypoint
interrupts_of image nodes links = flat_map (interrupt_of image nodes) links

-- the interrupts of the deepest chain of a family
pub record AreOfChain (task : Task) (nodes : List Node) (points : List Waypoint) : Type 0 where
  pub rooted : AreRooted task nodes
  pub need : ℕ
  pub links : List Link
  pub deepest : IsDeepest task nodes need links
  pub are : points ≡ interrupts_of task.flash nodes links

-- none if a cut instance lacks its first node, since no chain need lead on there
abbrev pub AreInterrupts : Task → List Node → List Waypoint → Type 0
AreInterrupts task nodes points = AreOfChain task nodes points ⊎ ((AreRooted task nodes → ⊥) × (points ≡ []))

-- the waypoints of a certificate's family
pub record AreWaypoints (task : Task) (c : Claim) (points : List Waypoint) : Type 0 where
  pub nodes : List Node
  pub filled : IsFilled task c.nodes nodes
  pub interrupts : AreInterrupts task nodes points
