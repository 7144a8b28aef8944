-- A certificate with the schedule that trials find.
use Rattle.std.proofs.Common.{◌≡◌, ◌↔◌, ◌⊎◌, inl, inr, ⊎_elim, refl, sym, subst, ℕ, true, false, List, Option, Some, None, IfSome, Bor}
use Rattle.std.specs.Option.{is_some, option_copied}
use Rattle.avr_model.specs.declared.assumption.Entry.{Entry}
use Rattle.avr_model.specs.Run.{Bounded}
use Rattle.avr_model.specs.declared.device.Device.{Device}
use Rattle.avr_model.specs.Devices.{Image, device_of}
use Rattle.witness_replay.specs.Spelling.{Plan, IsSchedule}
use Rattle.local_rules.specs.Site.{task_with}
use Rattle.certificate.specs.Claims.{Claim, IsClaim}
use Rattle.certificate.specs.Valid.{IsSound, IsAttained, IsValid}
use Rattle.guided_trials.specs.declared.guide.Guide.{Guide}
use Rattle.guided_trials.specs.Guides.{guide_of}
use Rattle.guided_trials.specs.Trials.{IsGuidedFound}
use Rattle.guided_trials.specs.Attaining.{IsScheduled, IsCompleted, SomeSucceeds, AttainedWhere, AttainsIfBounded, KeepsValid}

-- ---- the same certificate with another schedule

pub claim_with : (c : Claim) (found : Option Plan) → IsClaim c → IsClaim (record c { witness = found })
claim_with c found h =
    record {
      bound_fits = h.bound_fits;
      entries_fit = h.entries_fit;
      entries_of_device = h.entries_of_device;
      insts_fit = h.insts_fit;
      insts_ascend = h.insts_ascend;
      few_insts = h.few_insts;
      nodes_fit = h.nodes_fit;
      nodes_belong = h.nodes_belong;
      nodes_ascend = h.nodes_ascend;
      few_nodes = h.few_nodes;
      few_cells = h.few_cells;
      of_version = h.of_version;
      of_list = h.of_list;
      of_device = h.of_device;
    }

pub sound_with : (image : Image) (A : List Entry) (c : Claim) (found : Option Plan) → IsSound (task_with image A) c → IsSound (task_with image A) (record c { witness = found })
sound_with image A c found h =
    record {
      nodes = h.nodes;
      expanded = h.expanded;
      meets = record {
        device = h.meets.device;
        reset = h.meets.reset;
        faultless = h.meets.faultless;
        edges = h.meets.edges;
        ranks = h.meets.ranks;
        needs = λ inst. record { offsets = (h.meets.needs inst).offsets; entered = (h.meets.needs inst).entered };
        bounded = record { enough = h.meets.bounded.enough; small = h.meets.bounded.small };
        assumptions = h.meets.assumptions;
      };
    }

-- ---- what is answered

-- a schedule that trials find is one for the firmware's device
pub found_fits : (image : Image) (A : List Entry) (g : Guide) (n : ℕ) (d : Device) (found : Option Plan) → d ≡ device_of image → IsGuidedFound image A g n found → IfSome found (IsSchedule d)
found_fits image A g n d None is h = tt
found_fits image A g n d (Some plan) is h = subst (λ (x : Device). IsSchedule x plan) (sym is) h.schedule.fits

pub copied_as : (o : Option (Bor Plan)) (w : Option Plan) → option_copied o ≡ w → is_some o ≡ is_some w
copied_as None None e = refl
copied_as None (Some p) e = absurd (let wrong = e in cc)
copied_as (Some s) None e = absurd (let wrong = e in cc)
copied_as (Some s) (Some p) e = refl

pub none_as : (w : Option Plan) → is_some w ≡ false → w ≡ None
none_as None e = refl
none_as (Some p) e = absurd (let wrong = e in cc)

module _ (image : Image) (A : List Entry) (n : ℕ) (c : Claim) where
  pub with_found : (d : Claim) (found : Option Plan) → c.witness ≡ None → IsGuidedFound image A (guide_of image A c) n found → d ≡ record c { witness = found } → IsCompleted image A n c d
  with_found d found none h is =
      subst (IsCompleted image A n c) (sym is)
      (record { same = refl; schedule = subst (λ (w : Option Plan). IsScheduled image A n c w found) (sym none) h })

  attained_by : (w found : Option Plan) → IsScheduled image A n c w found → (is_some found ≡ true) ↔ ((is_some w ≡ true) ⊎ SomeSucceeds image A n c)
  attained_by None None h = (λ e. absurd (let wrong = e in cc), λ s. ⊎_elim (λ e. absurd (let wrong = e in cc)) (λ t. absurd (h t.0 t.1 t.2)) s)
  attained_by None (Some plan) h = (λ e. inr (h.trial, h.among, h.succeeds), λ s. refl)
  attained_by (Some p) None h = absurd (let wrong = h in cc)
  attained_by (Some p) (Some q) h = (λ e. inl refl, λ s. refl)

  pub attained_where : (d : Claim) → IsCompleted image A n c d → AttainedWhere image A n c d
  attained_where d h = attained_by c.witness d.witness h.schedule

  attains_if : (found : Option Plan) → AttainsIfBounded image A c.bound found → Bounded image A c.bound → IsAttained (task_with image A) c.bound found
  attains_if None h all = tt
  attains_if (Some plan) h all = h all

  pub valid_with : (d : Claim) (found : Option Plan) → AttainsIfBounded image A c.bound found → d ≡ record c { witness = found } → KeepsValid image A c d
  valid_with d found h is all valid =
      subst (IsValid (task_with image A)) (sym is) (record { sound = sound_with image A c found valid.sound; attained = attains_if found h all })
