use Rattle.cert_words.proofs.InstKeys.{inst_keys}
use Rattle.cert_words.proofs.NodeKeys.{points}
use Rattle.cert_words.proofs.States.{forms}
use Rattle.cert_words.proofs.Words.{value_words}
use Rattle.cert_words.proofs.laws.key_words.Goals as goal

pub returns-clause-values : goal.returns-clause-values
returns-clause-values c = value_words c.word_laws.ensures c.bytes_are_sets.ensures.bits c.bytes_are_sets.ensures.sets c.lattice_is_of_sets.ensures.fit

pub returns-clause-keys : goal.returns-clause-keys
returns-clause-keys c =
    let values = value_words c.word_laws.ensures c.bytes_are_sets.ensures.bits c.bytes_are_sets.ensures.sets c.lattice_is_of_sets.ensures.fit in record {
      insts = inst_keys c.word_laws.ensures;
      points = points c.word_laws.ensures values;
      forms = forms c.word_laws.ensures c.lattice_is_of_sets.ensures.fit c.facts_words.ensures values;
    }
