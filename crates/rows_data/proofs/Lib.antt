mod NewIds
