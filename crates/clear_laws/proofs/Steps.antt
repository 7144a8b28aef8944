-- The bytes that a step makes live: those of a guarded push or an entry, at the stack pointer and below.
use Rattle.std.proofs.Common.{◌≡◌, refl, sym, ap, ap₂, ◌∙◌, subst, ℕ, ◌+◌, ◌<◌, ◌≤◌, Bool, true, false, not, ◌&&◌, ◌||◌, List, [], ◌++◌, length, Option, Some, None, ◌⊎◌, inl, inr, ⊎_elim, arith}
use Rattle.frame_laws.proofs.AllLaws.{if_done}
use Rattle.local_laws.proofs.AllLaws.{done_is}
use Rattle.avr_model.specs.declared.instruction.Instr.{Instr}
use Rattle.avr_model.specs.declared.choice.Choice.{Choice}
use Rattle.avr_model.specs.declared.choice.Choice.TheVariants.{Go, Take}
use Rattle.avr_model.specs.declared.effect.Effect.{Effect}
use Rattle.avr_model.specs.declared.effect.Write.{Write}
use Rattle.avr_model.proofs.AllLaws.{devices_are_alike}
use Rattle.avr_model.specs.declared.device.Device.{Device}
use Rattle.avr_model.specs.Devices.{device_of, has_sph}
use Rattle.avr_model.specs.Sites.{instruction_at, is_scratch}
use Rattle.avr_model.specs.State.{State, Memory, is_live}
use Rattle.avr_model.specs.Effects.{way_back}
use Rattle.avr_model.specs.Assumptions.{has_scratch}
use Rattle.avr_model.specs.Step.{Illegal, Overflow, Done, after, all_inside, live_write, protected_write, refused_transfer, moves_vectors, is_refused, is_push, is_guarding, flag_by, flagged_or, memory_after, open_after, sp_after, may_take, entering, never_target, take, go, step}
use Rattle.abs_state.specs.declared.state.AbsState.{AbsState}
use Rattle.node_keys.specs.declared.keys.NodeKey.{NodeKey}
use Rattle.node_keys.specs.declared.keys.SpForm.{SpForm}
use Rattle.node_keys.specs.declared.keys.SpForm.TheVariants.{Closed}
use Rattle.node_keys.specs.Keys.{offset_of}
use Rattle.node_keys.specs.Place.{SpIs}
use Rattle.local_rules.specs.Registers.{before}
use Rattle.local_rules.specs.Local.{row_of}
use Rattle.edge_rules.specs.Edges.{raw_of}
use Rattle.edge_rules.specs.Families.{RankedFamily, IsSoundFamily}
use Rattle.edge_rules.specs.Frames.{Frame, Runs}
use Rattle.clear_laws.specs.Held.{pushes_register, is_guarded_push}
use Rattle.clear_laws.proofs.Pushed.{way_low, masked_by}
use Rattle.clear_laws.proofs.Memory.{IsPushedAt, inside_if_live, live_comes, live_above}
use Rattle.clear_laws.proofs.Ports.{ports_fit}
use Rattle.clear_laws.proofs.Effects.{IsSpWhole, Does, nothing, to_port, by_aim, pushing, entering as enters, does}
use Rattle.clear_laws.proofs.Rows.{IsPlainRow, pushes, row_of_pushing}
use Rattle.local_rules.specs.Cover.{effect_by}
use Rattle.local_rules.specs.Site.{Task, site_at, masks_by}

-- ---- what a step that is done did

flags_done : (pc : ℕ) (a b c : Option ℕ) (d : Bool) (x n : State) → flagged_or (flag_by pc a b c d) x ≡ Done n → x ≡ n
flags_done pc (Some a) b c d x n e = absurd (cc)
flags_done pc None (Some b) c d x n e = absurd (cc)
flags_done pc None None (Some c) d x n e = absurd (cc)
flags_done pc None None None true x n e = absurd (cc)
flags_done pc None None None false x n e = done_is x n e

-- an instruction's effect
pub record Went (task : Task) (m n : State) (b1 b2 : ℕ) : Type 0 where
  pub instr : Instr
  pub is : instruction_at task.flash m.pc ≡ Some instr
  pub leads : after m (is_guarding task.flash task.assumptions m.pc instr) (effect_by task m instr b1 b2) ≡ n

module _ (task : Task) (m n : State) where
  went_by : (b1 b2 : ℕ) (x : Option Instr) → instruction_at task.flash m.pc ≡ x → go task.flash task.assumptions m x b1 b2 ≡ Done n → Went task m n b1 b2
  went_by b1 b2 None is e = absurd (cc)
  went_by b1 b2 (Some instr) is e =
      let effect = effect_by task m instr b1 b2 in
      record {
        instr = instr;
        is = is;
        leads =
            flags_done m.pc (live_write m.memory (effect.stores ++ effect.pushes)) (protected_write task.flash task.assumptions m.pc instr effect) (refused_transfer task.flash task.assumptions m instr effect)
            (moves_vectors (device_of task.flash) (masks_by task) effect.stores) (after m (is_guarding task.flash task.assumptions m.pc instr) effect) n
            (if_done (all_inside m.device effect.pushes || is_refused (refused_transfer task.flash task.assumptions m instr effect)) _ (Overflow m.pc) n (λ k wrong. cc) e);
      }

  went : (b1 b2 : ℕ) → step task.flash task.assumptions m (Go b1 b2) ≡ Done n → Went task m n b1 b2
  went b1 b2 e = went_by b1 b2 (instruction_at task.flash m.pc) refl e

  took : (v : ℕ) (clears : Bool) → step task.flash task.assumptions m (Take v clears) ≡ Done n → after m true (entering m v clears) ≡ n
  took v clears e =
      let effect = entering m v clears in
      let legal = if_done (may_take m v clears) (take task.assumptions m effect) Illegal n (λ k wrong. cc) e in
      flags_done m.pc (live_write m.memory effect.pushes) None (never_target task.assumptions effect.pc) false (after m true effect) n
      (if_done (all_inside m.device effect.pushes || is_refused (never_target task.assumptions effect.pc)) _ (Overflow m.pc) n (λ k wrong. cc) legal)

-- ---- what comes to be live

-- This byte was pushed: at the stack pointer or below it, by a node with a whole one. The instruction is a guarded push of it, or has no
-- successor in its frame.
pub record Fresh (task : Task) (g : Frame) (n : State) (c : Choice) (a : ℕ) : Type 0 where
  pub offset : ℕ
  pub closed : g.node.key.sp ≡ Closed offset
  pub low : a + offset ≤ g.origin.base
  pub whole : n.is_open ≡ false
  pub which : (b1 b2 : ℕ) → c ≡ Go b1 b2
      → ((is_guarded_push task g.node.key.pc ≡ true) × (a + offset ≡ g.origin.base)) ⊎ ((raw_of task g.node).moves ≡ [])

abbrev pub ComesFrom : Task → Frame → State → State → Choice → Type 0
ComesFrom task g m n c = (a : ℕ) → is_live n.memory a ≡ true → (is_live m.memory a ≡ true) ⊎ Fresh task g n c a

-- no byte at or below a whole stack pointer is live
abbrev pub IsLiveAbove : State → Type 0
IsLiveAbove n = n.is_open ≡ false → (a : ℕ) → is_live n.memory a ≡ true → n.sp < a

above_by : (memory : Memory) (sp : ℕ) (stores pushes : List Write) (a : ℕ) (guarded is_open : Bool) → is_open ≡ false
    → is_live (memory_after memory guarded is_open sp stores pushes) a ≡ true → sp < a
above_by memory sp stores pushes a guarded true e h = absurd (cc)
above_by memory sp stores pushes a guarded false e h = live_above memory sp stores pushes a guarded h

above_after : (m : State) (guarded : Bool) (e : Effect) → IsLiveAbove (after m guarded e)
above_after m guarded e whole a h = above_by m.memory _ e.stores e.pushes a guarded _ whole h

guarded_by : (task : Task) (pc pc' : ℕ) (instr : Instr) → pc ≡ pc' → instruction_at task.flash pc ≡ Some instr → is_push instr ≡ true
    → is_guarding task.flash task.assumptions pc instr ≡ true → is_guarded_push task pc' ≡ true
unfolding is_guarding
guarded_by task pc pc' instr same is push guarded =
    subst (λ p. is_guarded_push task p ≡ true) same
    (ap₂ (λ a b. a && b) (ap pushes_register is ∙ push)
    (ap (λ p. not (is_scratch task.flash pc || (p && has_scratch task.assumptions pc))) (sym push) ∙ guarded))

-- an instruction that guards its bytes makes no compiler's small frame
guarding_first : (a b : Bool) → not (a || b) ≡ true → a ≡ false
guarding_first true b h = absurd (cc)
guarding_first false b h = refl

pub unscratched : (task : Task) (pc : ℕ) (instr : Instr) → is_guarding task.flash task.assumptions pc instr ≡ true → is_scratch task.flash pc ≡ false
unfolding is_guarding
unscratched task pc instr h = guarding_first (is_scratch task.flash pc) (is_push instr && has_scratch task.assumptions pc) h

pub whole_sp : (base : ℕ) (is_open : Bool) (sp offset : ℕ) (form : SpForm) → form ≡ Closed offset → SpIs base is_open sp form → sp + offset ≡ base
whole_sp base is_open sp offset form e h = (subst (SpIs base is_open sp) e h).1

-- a byte of a return address that is pushed in SRAM lies at the frame's slots or below
module _ (task : Task) (f : RankedFamily) (m : State) (g : Frame) (gs : List Frame) (runs : Runs task f m g gs) (offset : ℕ) (form : g.node.key.sp ≡ Closed offset) where
  here_sp : m.sp + offset ≡ g.origin.base
  here_sp = whole_sp g.origin.base m.is_open m.sp offset g.node.key.sp form runs.running.place.sp

  -- without SPH the stack pointer is above I/O
  far_sp : has_sph m.device ≡ false → 3 ≤ m.sp
  far_sp none =
      omega (arith, runs.running.room (masked_by task m runs.device none), here_sp, ap offset_of form, devices_are_alike.least_io m.device)

  pub way_below : (device : Device) → m.device ≡ device → (back a : ℕ) → a < 33280 → IsPushedAt (way_back device m.sp back) a → a + offset ≤ g.origin.base
  way_below device same back a inside h =
      way_low m.device m.sp back g.origin.base offset a here_sp runs.running.machine.sp_fits far_sp inside (subst (λ (d : Device). IsPushedAt (way_back d m.sp back) a) (sym same) h)

module _ (task : Task) (f : RankedFamily) (sound : IsSoundFamily task f) (m n : State) (few : n.memory.below + length n.memory.live < 33280) (g : Frame) (gs : List Frame)
    (runs : Runs task f m g gs) where
  at_sp : (offset : ℕ) → g.node.key.sp ≡ Closed offset → m.sp + offset ≡ g.origin.base
  at_sp offset e = whole_sp g.origin.base m.is_open m.sp offset g.node.key.sp e runs.running.place.sp

  low_live : (a : ℕ) → is_live n.memory a ≡ true → a < 33280
  low_live a live = omega (arith, inside_if_live n.memory.below n.memory.live a live, few)

  module _ (b1 b2 : ℕ) (w : Went task m n b1 b2) where
    abbrev k : NodeKey
    k = g.node.key

    abbrev effect : Effect
    effect = effect_by task m w.instr b1 b2

    abbrev scratch : Bool
    scratch = is_scratch task.flash k.pc

    abbrev guards : Bool
    guards = is_guarding task.flash task.assumptions m.pc w.instr

    abbrev state : AbsState
    state = before w.instr g.node.state

    here : instruction_at task.flash k.pc ≡ Some w.instr
    here = subst (λ p. instruction_at task.flash p ≡ Some w.instr) runs.running.place.pc w.is

    row : pushes w.instr ≡ true → IsPlainRow task k g.node.state w.instr
    row = row_of_pushing task k g.node.state w.instr here (sound.faultless g.node runs.present)

    -- the row of a guarded instruction is that of one that isn't scratch
    still : pushes w.instr ≡ true → guards ≡ true → (row_of task false (site_at (device_of task.flash) k state) w.instr).moves ≡ []
        → (raw_of task g.node).moves ≡ []
    still plain guarded none =
        (row plain).none
        (ap (λ b. (row_of task b (site_at (device_of task.flash) k state) w.instr).moves) (subst (λ p. is_scratch task.flash p ≡ false) runs.running.place.pc (unscratched task m.pc w.instr guarded)) ∙ none)

    open_is : (after m guards effect).is_open ≡ n.is_open
    open_is = ap (λ (x : State). x.is_open) w.leads

    whole : effect.is_open ≡ false → effect.stores ≡ [] → n.is_open ≡ false
    whole closed none = sym open_is ∙ ap₂ (open_after m.device) closed none

    fresh : (a : ℕ) → a < 33280 → guards ≡ true → IsPushedAt effect.pushes a
        → Does (masks_by task) (device_of task.flash) m g.origin.base k g.node.state w.instr effect (row_of task scratch (site_at (device_of task.flash) k state) w.instr) (row_of task false (site_at (device_of task.flash) k state) w.instr)
        → Fresh task g n (Go b1 b2) a
    fresh a inside guarded at (nothing stores pushes) = absurd (subst (λ ws. IsPushedAt ws a) pushes at)
    fresh a inside guarded at (to_port b byte low plain sets stores pushes) = absurd (subst (λ ws. IsPushedAt ws a) pushes at)
    fresh a inside guarded at (by_aim b byte aim is aimed may has sets stores pushes) = absurd (subst (λ ws. IsPushedAt ws a) pushes at)
    fresh a inside guarded at (pushing byte push plain closes closed stores pushes) =
        let form = closes (row plain).faultless in
        let sp = at_sp form.0 form.1 in
        let top : a ≡ m.sp = ⊎_elim (λ e. e) (λ no. absurd no) (subst (λ ws. IsPushedAt ws a) pushes at) in
        record {
          offset = form.0;
          closed = form.1;
          low = omega (arith, top, sp);
          whole = whole closed stores;
          which = λ c1 c2 e. inl (guarded_by task m.pc k.pc w.instr runs.running.place.pc w.is push guarded, omega (arith, top, sp));
        }
    fresh a inside guarded at (enters back none plain closes closed stores pushes) =
        let form = closes (row plain).faultless in
        record {
          offset = form.0;
          closed = form.1;
          low = way_below task f m g gs runs form.0 form.1 (device_of task.flash) runs.device back a inside (subst (λ ws. IsPushedAt ws a) pushes at);
          whole = whole closed stores;
          which = λ c1 c2 e. inr (still plain guarded none);
        }

    comes_going : ComesFrom task g m n (Go b1 b2)
    comes_going a live =
        let guarded = guards in
        let was = subst (λ (x : State). is_live x.memory a ≡ true) (sym w.leads) live in
        ⊎_elim (λ l. inl l)
        (λ p. inr (fresh a (low_live a live) p.0 p.1
        (does task m g.origin k g.node.state state runs.running (masked_by task m runs.device) scratch b1 b2 (device_of task.flash) runs.device w.instr (ports_fit task.flash m.pc w.instr w.is))))
        (live_comes m.memory (sp_after m.device effect.sp effect.stores) effect.stores effect.pushes a guarded (open_after m.device effect.is_open effect.stores) was)

  pub comes_by_go : (b1 b2 : ℕ) → step task.flash task.assumptions m (Go b1 b2) ≡ Done n → ComesFrom task g m n (Go b1 b2)
  comes_by_go b1 b2 e = comes_going b1 b2 (went task m n b1 b2 e)

  pub comes_by_take : (v : ℕ) (clears : Bool) → step task.flash task.assumptions m (Take v clears) ≡ Done n → IsSpWhole g.node.key.sp → ComesFrom task g m n (Take v clears)
  comes_by_take v clears e form a live =
      let leads = took task m n v clears e in
      let effect = entering m v clears in
      let was = subst (λ (x : State). is_live x.memory a ≡ true) (sym leads) live in
      ⊎_elim (λ l. inl l)
      (λ p. inr (record {
        offset = form.0;
        closed = form.1;
        low = way_below task f m g gs runs form.0 form.1 m.device refl m.pc a (low_live a live) p.1;
        whole = sym (ap (λ (x : State). x.is_open) leads);
        which = λ c1 c2 wrong. absurd (cc);
      }))
      (live_comes m.memory effect.sp effect.stores effect.pushes a true effect.is_open was)

  pub is_above : (c : Choice) → step task.flash task.assumptions m c ≡ Done n → IsLiveAbove n
  is_above (Go b1 b2) e =
      let w = went task m n b1 b2 e in
      subst IsLiveAbove w.leads (above_after m (is_guarding task.flash task.assumptions m.pc w.instr) (effect_by task m w.instr b1 b2))
  is_above (Take v clears) e = subst IsLiveAbove (took task m n v clears e) (above_after m true (entering m v clears))
