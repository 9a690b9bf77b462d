mod UsesLemmas
