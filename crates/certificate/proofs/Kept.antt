-- The schedule and the invariants of a certificate.
use Rattle.std.proofs.Common.{◌≡◌, Option, None}
use Rattle.std.specs.Prelude.{IfSome}
use Rattle.witness_replay.specs.Spelling.{Plan, IsSchedule}
use Rattle.certificate.specs.Claims.{Claim, IsClaim, IsCertificate}

abbrev pub changed : Claim → Option Plan → Claim
changed c w = record { device = c.device; version = c.version; bound = c.bound; assumptions = c.assumptions; instances = c.instances; nodes = c.nodes; witness = w }

-- a claim without a schedule is a certificate
pub without_witness : (c : Claim) → IsClaim c → c.witness ≡ None → IsCertificate c
without_witness c h none = record { claim = h; schedule = rw none tt }

claim_kept : (c : Claim) (w : Option Plan) → IsClaim c → IsClaim (changed c w)
claim_kept c w h = record {
  bound_fits = h.bound_fits;
  entries_fit = h.entries_fit;
  entries_of_device = h.entries_of_device;
  insts_fit = h.insts_fit;
  insts_ascend = h.insts_ascend;
  few_insts = h.few_insts;
  nodes_fit = h.nodes_fit;
  nodes_belong = h.nodes_belong;
  nodes_ascend = h.nodes_ascend;
  few_nodes = h.few_nodes;
  few_cells = h.few_cells;
  of_version = h.of_version;
  of_list = h.of_list;
  of_device = h.of_device;
}

-- another schedule keeps the invariants
pub with_witness : (c : Claim) (w : Option Plan) → IsCertificate c → IfSome w (IsSchedule c.device)
    → IsCertificate (record { device = c.device; version = c.version; bound = c.bound; assumptions = c.assumptions; instances = c.instances; nodes = c.nodes; witness = w })
with_witness c w h fits = record { claim = claim_kept c w h.claim; schedule = fits }
