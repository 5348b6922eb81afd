use Rattle.reql_chain.proofs.terms.+chain.Given as goal

abbrev pub decreases-argument : goal.decreases-argument
decreases-argument l = l.depth

abbrev pub decreases-array : goal.decreases-array
decreases-array l = l.depth

abbrev pub decreases-call : goal.decreases-call
decreases-call l = l.depth

abbrev pub decreases-enclosed : goal.decreases-enclosed
decreases-enclosed l = l.depth

abbrev pub decreases-first : goal.decreases-first
decreases-first l = l.depth

abbrev pub decreases-function : goal.decreases-function
decreases-function l = l.depth

abbrev pub decreases-object : goal.decreases-object
decreases-object l = l.depth

abbrev pub decreases-root : goal.decreases-root
decreases-root l = l.depth

abbrev pub decreases-term : goal.decreases-term
decreases-term l = l.depth
