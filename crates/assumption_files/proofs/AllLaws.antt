-- The laws, each under the name of its public function. Crates above cite them from here. Laws of texts rest on those of `line_reading`.
use Rattle.line_reading.specs.Words.{WordLaws}
use Rattle.bit_domain.proofs.AllLaws.{numbers_are_permitted, bytes_are_sets}
use Rattle.assumption_files.specs.Exact.{ReadingIsExact, EntryWords}
use Rattle.assumption_files.specs.Targets.{TargetsAreThoseOfMembers}
use Rattle.assumption_files.proofs.Entries.{entry_laws}
use Rattle.assumption_files.proofs.Exact.{read_is_due, due_is_read}
use Rattle.assumption_files.proofs.Members.{members_give_targets}
pub use Rattle.assumption_files.proofs.Exact.{refused_is_stuck, one_text}
pub use Rattle.assumption_files.proofs.Entries.{entry_is_words}
pub use Rattle.assumption_files.proofs.Numbers.{most_digits}
pub use Rattle.assumption_files.proofs.Lists.{pushed, none_are_entries, follows}
pub use Rattle.assumption_files.proofs.Parts.{no_lines, none_begun, words_append}

pub entry_words : WordLaws → EntryWords
entry_words k = entry_laws k

pub reading_is_exact : WordLaws → ReadingIsExact
reading_is_exact k = record { read = read_is_due k; due = due_is_read k }

pub targets_are_those_of_members : TargetsAreThoseOfMembers
targets_are_those_of_members = members_give_targets numbers_are_permitted bytes_are_sets
