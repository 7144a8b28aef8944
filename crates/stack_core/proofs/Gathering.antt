-- The files of a command, read in order.
use Rattle.std.proofs.Common.{◌≡◌, ℕ, true, List, Option, Some, None, refl, sym, ap, ◌∙◌, subst}
use Rattle.text_base.specs.Outside.{Held, Blamed, Rose, IsBlamed}
use Rattle.commands.specs.Commands.{Command, Role, Firmware, Second, Assumptions, name_of}
use Rattle.replies.specs.declared.status.Status.{Status}
use Rattle.replies.specs.declared.status.Status.TheVariants as exit
use Rattle.replies.specs.Texts.{too_long}
use Rattle.replies.specs.Reading as read
use Rattle.replies.specs.Reading.{Seen, Unread, Whole, Long, firmware_cap, second_cap, assumption_cap, cap_of, Agrees, AgreesUnder, AllAgree, is_before, WasRead}
use Rattle.replies.specs.Reply.{Reply, WithBytes, WithOptional, WorkReply, IsReply}
use Rattle.stack_core.specs.declared.reading.Unread.{Unread as Unfetched}
use Rattle.stack_core.specs.declared.reading.Unread.TheVariants as unread
use Rattle.stack_core.specs.Reading.{AreFetched, IsUnfetchedUnder, GoTogether, whole_of, GoWith, seen_under, seen_whole, IsUngathered}

all_agree : (c : Command) (holds : List ℕ → Held) (seen : read.Contents) → AgreesUnder holds firmware_cap (name_of c Firmware) seen.firmware → AgreesUnder holds (second_cap c) (name_of c Second) seen.second
    → AgreesUnder holds assumption_cap (name_of c Assumptions) seen.assumptions → AllAgree c holds seen
all_agree c holds seen a b d Firmware = a
all_agree c holds seen a b d Second = b
all_agree c holds seen a b d Assumptions = d

unread_under : (holds : List ℕ → Held) (cap : ℕ) (o : Option (List ℕ)) → AgreesUnder holds cap o Unread
unread_under holds cap None = tt
unread_under holds cap (Some n) = tt

agrees_under : (holds : List ℕ → Held) (cap : ℕ) (o : Option (List ℕ)) (n : List ℕ) (s : Seen) → o ≡ Some n → Agrees (holds n) cap s → AgreesUnder holds cap o s
agrees_under holds cap o n s e h = subst (λ x. AgreesUnder holds cap x s) (sym e) h

-- ---- one file

-- an optional file was read as these bytes
pub record IsReadAs (holds : List ℕ → Held) (cap : ℕ) (o : Option (List ℕ)) (bytes : List ℕ) : Type 0 where
  pub agrees : AgreesUnder holds cap o (seen_under o bytes)
  pub goes : GoWith o bytes
  pub was : WasRead holds cap o

-- files that were read still report the same
read_bytes : (holds there : List ℕ → Held) (cap before after : ℕ) (o : Option (List ℕ)) (bytes : List ℕ) → ((n : List ℕ) → there n ≡ holds n) → AreFetched there cap before after o bytes
    → IsReadAs holds cap o bytes × (after ≡ before)
read_bytes holds there cap before after None bytes same h = (record { agrees = tt; goes = h.0; was = tt }, h.1)
read_bytes holds there cap before after (Some n) bytes same h =
    let a : Agrees (holds n) cap (Whole bytes) = subst (λ x. Agrees x cap (Whole bytes)) (same n) h.0 in (record { agrees = a; goes = tt; was = (bytes, a) }, h.1)

-- the same under the command's name
pub read_as : (holds there : List ℕ → Held) (cap cap' before after : ℕ) (o o' : Option (List ℕ)) (bytes : List ℕ) → o' ≡ o → cap ≡ cap' → ((n : List ℕ) → there n ≡ holds n) → AreFetched there cap before after o bytes
    → IsReadAs holds cap' o' bytes × (after ≡ before)
read_as holds there cap cap' before after o o' bytes is caps same h =
    let r = read_bytes holds there cap before after o bytes same h in
    (subst (λ x. IsReadAs holds x o' bytes) caps (subst (λ x. IsReadAs holds cap x bytes) (sym is) r.0), r.1)

-- ---- replies to files that are too long, and to files that were read

bytes_reply : (o : Option (List ℕ)) (bytes : List ℕ) (next : List ℕ → Reply) (status : Status) (text : List ℕ) → GoWith o bytes → next bytes status text → WithBytes o (seen_under o bytes) next status text
bytes_reply None bytes next status text e h = subst (λ b. next b status text) e h
bytes_reply (Some name) bytes next status text e h = h

optional_reply : (o list : Option (List ℕ)) (next : Option (List ℕ) → Reply) (status : Status) (text : List ℕ) → GoTogether o list → next list status text → WithOptional o (whole_of list) next status text
optional_reply None None next status text g h = h
optional_reply None (Some b) next status text g h = absurd g
optional_reply (Some n) None next status text g h = absurd g
optional_reply (Some n) (Some b) next status text g h = h

long_bytes : (o : Option (List ℕ)) (n : List ℕ) (next : List ℕ → Reply) → o ≡ Some n → WithBytes o Long next exit.TooLong (too_long n)
long_bytes o n next e = subst (λ x. WithBytes x Long next exit.TooLong (too_long n)) (sym e) (refl, refl)

long_optional : (o : Option (List ℕ)) (n : List ℕ) (next : Option (List ℕ) → Reply) → o ≡ Some n → WithOptional o Long next exit.TooLong (too_long n)
long_optional o n next e = subst (λ x. WithOptional x Long next exit.TooLong (too_long n)) (sym e) (refl, refl)

-- the reply after the firmware, and after the second file
abbrev AfterFirmware : Command → Seen → Seen → List ℕ → Reply
AfterFirmware c second list fw = WithBytes (name_of c Second) second (λ s. WithOptional (name_of c Assumptions) list (λ l. WorkReply c fw s l))

abbrev AfterSecond : Command → Seen → List ℕ → List ℕ → Reply
AfterSecond c list fw s = WithOptional (name_of c Assumptions) list (λ l. WorkReply c fw s l)

pub whole_reply : (c : Command) (firmware second : List ℕ) (list : Option (List ℕ)) (status : Status) (text : List ℕ) → GoWith (name_of c Firmware) firmware → GoWith (name_of c Second) second
    → GoTogether (name_of c Assumptions) list → WorkReply c firmware second list status text → IsReply c (seen_whole c firmware second list) status text
whole_reply c firmware second list status text f s g h =
    bytes_reply (name_of c Firmware) firmware (AfterFirmware c (seen_under (name_of c Second) second) (whole_of list)) status text f
    (bytes_reply (name_of c Second) second (AfterSecond c (whole_of list) firmware) status text s (optional_reply (name_of c Assumptions) list (λ l. WorkReply c firmware second l) status text g h))

-- ---- which files come before

module _ (c : Command) (holds : List ℕ → Held) where
  none_before : (r : Role) → is_before r Firmware ≡ true → WasRead holds (cap_of c r) (name_of c r)
  none_before Firmware e = absurd (let wrong = e in cc)
  none_before Second e = absurd (let wrong = e in cc)
  none_before Assumptions e = absurd (let wrong = e in cc)

  first_before : WasRead holds firmware_cap (name_of c Firmware) → (r : Role) → is_before r Second ≡ true → WasRead holds (cap_of c r) (name_of c r)
  first_before h Firmware e = h
  first_before h Second e = absurd (let wrong = e in cc)
  first_before h Assumptions e = absurd (let wrong = e in cc)

  two_before : WasRead holds firmware_cap (name_of c Firmware) → WasRead holds (second_cap c) (name_of c Second) → (r : Role) → is_before r Assumptions ≡ true → WasRead holds (cap_of c r) (name_of c r)
  two_before h k Firmware e = h
  two_before h k Second e = k
  two_before h k Assumptions e = absurd (let wrong = e in cc)

-- ---- where a file isn't read whole

blames_at : (blamed : Blamed) (n m : List ℕ) → n ≡ m → IsBlamed blamed m → IsBlamed blamed n
blames_at blamed n m e h = subst (IsBlamed blamed) (sym e) h

pub first_stops : (c : Command) (holds : List ℕ → Held) (before after : ℕ) (blamed : Blamed) (o : Option (List ℕ)) (e : Unfetched) → name_of c Firmware ≡ o
    → IsUnfetchedUnder holds firmware_cap before after blamed o e → IsUngathered c holds before after blamed e
first_stops c holds before after blamed None e is h = absurd h
first_stops c holds before after blamed (Some f) (unread.Long n) is h = (
  record {
    seen = record { firmware = Long; second = Unread; assumptions = Unread };
    agrees = all_agree c holds _ (agrees_under holds firmware_cap (name_of c Firmware) f Long is h.1) (unread_under holds (second_cap c) (name_of c Second)) (unread_under holds assumption_cap (name_of c Assumptions));
    reply = long_bytes (name_of c Firmware) n.now (AfterFirmware c Unread Unread) (is ∙ ap Some (sym h.0));
  },
  h.2,
)
first_stops c holds before after blamed (Some f) (unread.Failed n) is h =
    (record { role = Firmware; is = is ∙ ap Some (sym h.0); blames = blames_at blamed n.now f h.0 h.2; earlier = none_before c holds }, h.1)
first_stops c holds before after blamed (Some f) unread.Memory is h = h

pub second_stops : (c : Command) (holds there : List ℕ → Held) (fw : List ℕ) (cap before middle after : ℕ) (blamed : Blamed) (o : Option (List ℕ)) (e : Unfetched) → name_of c Second ≡ o → cap ≡ second_cap c
    → ((n : List ℕ) → there n ≡ holds n) → IsReadAs holds firmware_cap (name_of c Firmware) fw × (middle ≡ before) → IsUnfetchedUnder there cap middle after blamed o e → IsUngathered c holds before after blamed e
second_stops c holds there fw cap before middle after blamed None e is caps same first h = absurd h
second_stops c holds there fw cap before middle after blamed (Some s) (unread.Long n) is caps same first h =
    let long : Agrees (holds s) (second_cap c) Long = subst (λ x. Agrees (holds s) x Long) caps (subst (λ x. Agrees x cap Long) (same s) h.1) in (
      record {
        seen = record { firmware = seen_under (name_of c Firmware) fw; second = Long; assumptions = Unread };
        agrees = all_agree c holds _ first.0.agrees (agrees_under holds (second_cap c) (name_of c Second) s Long is long) (unread_under holds assumption_cap (name_of c Assumptions));
        reply = bytes_reply (name_of c Firmware) fw (AfterFirmware c Long Unread) exit.TooLong (too_long n.now) first.0.goes (long_bytes (name_of c Second) n.now (AfterSecond c Unread fw) (is ∙ ap Some (sym h.0)));
      },
      h.2 ∙ first.1,
    )
second_stops c holds there fw cap before middle after blamed (Some s) (unread.Failed n) is caps same first h = (
  record { role = Second; is = is ∙ ap Some (sym h.0); blames = blames_at blamed n.now s h.0 h.2; earlier = first_before c holds first.0.was },
  subst (λ x. Rose x after) first.1 h.1,
)
second_stops c holds there fw cap before middle after blamed (Some s) unread.Memory is caps same first h = h ∙ first.1

pub record AreTwoRead (c : Command) (holds : List ℕ → Held) (fw second : List ℕ) (before after : ℕ) : Type 0 where
  pub first : IsReadAs holds firmware_cap (name_of c Firmware) fw
  pub next : IsReadAs holds (second_cap c) (name_of c Second) second
  pub quiet : after ≡ before

pub two_read : (c : Command) (holds : List ℕ → Held) (fw second : List ℕ) (before middle after : ℕ) → IsReadAs holds firmware_cap (name_of c Firmware) fw × (middle ≡ before)
    → IsReadAs holds (second_cap c) (name_of c Second) second × (after ≡ middle) → AreTwoRead c holds fw second before after
two_read c holds fw second before middle after first next = record { first = first.0; next = next.0; quiet = next.1 ∙ first.1 }

pub third_stops : (c : Command) (holds there : List ℕ → Held) (fw second : List ℕ) (before middle after : ℕ) (blamed : Blamed) (o : Option (List ℕ)) (e : Unfetched) → name_of c Assumptions ≡ o
    → ((n : List ℕ) → there n ≡ holds n) → AreTwoRead c holds fw second before middle → IsUnfetchedUnder there assumption_cap middle after blamed o e → IsUngathered c holds before after blamed e
third_stops c holds there fw second before middle after blamed None e is same two h = absurd h
third_stops c holds there fw second before middle after blamed (Some a) (unread.Long n) is same two h =
    let long : Agrees (holds a) assumption_cap Long = subst (λ x. Agrees x assumption_cap Long) (same a) h.1 in (
      record {
        seen = record { firmware = seen_under (name_of c Firmware) fw; second = seen_under (name_of c Second) second; assumptions = Long };
        agrees = all_agree c holds _ two.first.agrees two.next.agrees (agrees_under holds assumption_cap (name_of c Assumptions) a Long is long);
        reply =
            bytes_reply (name_of c Firmware) fw (AfterFirmware c (seen_under (name_of c Second) second) Long) exit.TooLong (too_long n.now) two.first.goes
            (bytes_reply (name_of c Second) second (AfterSecond c Long fw) exit.TooLong (too_long n.now) two.next.goes
            (long_optional (name_of c Assumptions) n.now (λ l. WorkReply c fw second l) (is ∙ ap Some (sym h.0))));
      },
      h.2 ∙ two.quiet,
    )
third_stops c holds there fw second before middle after blamed (Some a) (unread.Failed n) is same two h = (
  record { role = Assumptions; is = is ∙ ap Some (sym h.0); blames = blames_at blamed n.now a h.0 h.2; earlier = two_before c holds two.first.was two.next.was },
  subst (λ x. Rose x after) two.quiet h.1,
)
third_stops c holds there fw second before middle after blamed (Some a) unread.Memory is same two h = h ∙ two.quiet
