use Rattle.std.proofs.Common.{ap, ◌∙◌, ◌++◌, List, ℕ, codes}
use Rattle.serde_json.specs.Data.{Data}
use Rattle.serde_json.specs.Written.{compact_text}
use Rattle.certificate.specs.declared.instance.Inst.{Inst}
use Rattle.reports.specs.Json.{count, fits_data, insts_text}
use Rattle.reports.proofs.Plain.{witness_plain}
use Rattle.reports.proofs.Texts.{written}
use Rattle.reports.proofs.json.put_report.Goals as goal

pub put-requires-5 : goal.put-requires-5
put-requires-5 c = rw c.in_ok-witness.ensures (witness_plain c.args.told.now.certificate.now.witness)

pub returns : goal.returns
returns c =
    let bound = c.from.ensures ∙ ap (λ (n : ℕ). count n) c.bound-bound.ensures in
    let fits = c.in_ok-fits.ensures ∙ ap (λ (n : ℕ). fits_data c.args.told.now.device n c.args.told.now.static_end) c.bound-bound.ensures in
    written c.args.told.now.device c.args.told.now.certificate.now c.args.told.now.names.now c.args.told.now.static_end c.args.out.now.items c.put.new.out.items c.put-2.new.out.items c.extend_from_slice.new.self.items
    c.put_insts.new.out.items c.put-3.new.out.items c.put-4.new.out.items c.put-5.new.out.items c.extend_from_slice-2.new.self.items
    (c.in_ok-put.ensures ∙ ap (λ (d : Data). c.args.out.now.items ++ (codes "{\"bound\":" ++ compact_text d)) bound)
    (c.in_ok-put-2.ensures ∙ ap (λ (d : Data). c.put.new.out.items ++ (codes ",\"fits\":" ++ compact_text d)) fits)
    c.in_ok-extend_from_slice.ensures.items
    (c.in_ok-put_insts.ensures ∙ ap (λ (xs : List Inst). c.extend_from_slice.new.self.items ++ insts_text c.args.told.now.names.now xs) c.instances.ensures)
    (c.in_ok-put-3.ensures ∙ ap (λ (d : Data). c.put_insts.new.out.items ++ (codes "],\"room\":" ++ compact_text d)) c.room_value.ensures)
    (c.in_ok-put-4.ensures ∙ ap (λ (d : Data). c.put-3.new.out.items ++ (codes ",\"static\":" ++ compact_text d)) c.static_value.ensures)
    (c.in_ok-put-5.ensures ∙ ap (λ (d : Data). c.put-4.new.out.items ++ (codes ",\"witness\":" ++ compact_text d)) c.in_ok-witness.ensures)
    c.in_ok-extend_from_slice-2.ensures.items
