-- Lists with one more entry, and lines of a text.
use Rattle.std.proofs.Common.{◌≡◌, ◌<◌, List, [], ◌∷◌, ◌++◌, true, length, length-append, refl, ap, sym, ◌∙◌, arith}
use Rattle.std.proofs.lemmas.Bool.{and_parts, and_from}
use Rattle.std.proofs.lemmas.List.{get_or_at}
use Rattle.std.proofs.lemmas.List.Elements.{All-push}
use Rattle.vector_table.proofs.AllLaws.{in_order_pushed}
use Rattle.avr_model.specs.declared.device.Device.{Device}
use Rattle.avr_model.specs.declared.assumption.Entry.{Entry}
use Rattle.avr_model.specs.Assumptions.{is_before}
use Rattle.vector_table.specs.Entries.{is_entry, fits_device, are_in_order, is_above_last, most_entries}
use Rattle.assumption_files.specs.Exact.{AreEntriesOf}
use Rattle.assumption_files.specs.Reading.{is_entry_of}

-- ---- entries

ordered_to : (es : List Entry) (e : Entry) (more : List Entry) → are_in_order (es ++ e ∷ more) ≡ true → is_above_last es e ≡ true
ordered_to [] e more h = refl
ordered_to (last ∷ []) e more h = (and_parts (is_before last e) (are_in_order (e ∷ more)) h).0
ordered_to (x ∷ next ∷ rest) e more h =
    ordered_to (next ∷ rest) e more (and_parts (is_before x next) (are_in_order (next ∷ rest ++ e ∷ more)) h).1

-- a longer list has the entry after a first part
pub record FollowsPart (device : Device) (es : List Entry) (e : Entry) : Type 0 where
  pub room : length es < most_entries
  pub formed : is_entry_of device e ≡ true
  pub above : is_above_last es e ≡ true

pub follows : (device : Device) (es : List Entry) (e : Entry) (more : List Entry) → AreEntriesOf device (es ++ e ∷ more) → FollowsPart device es e
follows device es e more h =
    let n = length-append es (e ∷ more) in
    let few = h.are.few in
    let here = get_or_at es e more e (length es) refl in
    record {
      room = omega arith;
      formed =
          and_from (is_entry e) (fits_device device e) (ap is_entry (sym here) ∙ h.are.each (length es) e (omega arith))
          (ap (fits_device device) (sym here) ∙ h.fit (length es) e (omega arith));
      above = ordered_to es e more h.are.in_order;
    }

pub pushed : (device : Device) (es : List Entry) (e : Entry) → AreEntriesOf device es → FollowsPart device es e → AreEntriesOf device (es ++ e ∷ [])
pushed device es e h f =
    let n = length-append es (e ∷ []) in
    let room = f.room in
    let parts = and_parts (is_entry e) (fits_device device e) f.formed in
    record {
      are = record {
        in_order = in_order_pushed es e h.are.in_order f.above;
        each = All-push (λ e. is_entry e ≡ true) es e h.are.each parts.0;
        few = omega arith;
      };
      fit = All-push (λ e. fits_device device e ≡ true) es e h.fit parts.1;
    }

pub none_are_entries : (device : Device) → AreEntriesOf device []
none_are_entries device =
    record { are = record { in_order = refl; each = λ k d l. absurd (omega arith); few = omega arith }; fit = λ k d l. absurd (omega arith) }
