-- Lists of posts, and of workers.
use Rattle.std.proofs.Common.{◌≡◌, ℕ, Bool, List, [], ◌∷◌, length, map, refl, sym, subst, ap, suc, inl, inr}
use Rattle.reql_net.specs.Nets.{NetTold}
use Rattle.reql_net.specs.declared.net.NetFault.{NetFault}
use Rattle.reql_net.specs.declared.net.NetFault.TheVariants as fault
use Rattle.reql_words.specs.Words.{Asks, Listen}
use Rattle.reql_run.specs.Listening.{ComesToNone, Unheard, status_of_fault}

pub counted : {A B : Type 0} (f : A → B) (xs : List A) → length (map f xs) ≡ length xs
counted f [] = refl
counted f (x ∷ xs) = ap (λ n. suc n) (counted f xs)

pub map_twice : {A B C : Type 0} (f : A → B) (g : B → C) (xs : List A) → map g (map f xs) ≡ map (λ x. g (f x)) xs
map_twice f g [] = refl
map_twice f g (x ∷ xs) = ap (λ ys. g (f x) ∷ ys) (map_twice f g xs)

-- the status where no session was served is that of its fault
pub unheard : (asked : Asks) (port workers many sessions : ℕ) (key password : List ℕ) (quiet : Bool) (tables : List (List ℕ × List ℕ)) (old new : NetTold) (status back : ℕ) (f : NetFault)
    → asked ≡ Listen port workers many sessions key password quiet tables → status ≡ status_of_fault f → ComesToNone old new port many back f → Unheard asked old new status back
unheard asked port workers many sessions key password quiet tables old new status back fault.Failed is s c = subst (λ a. Unheard a old new status back) (sym is) (inl (s, c.0, c.1))
unheard asked port workers many sessions key password quiet tables old new status back fault.Memory is s c = subst (λ a. Unheard a old new status back) (sym is) (inr (s, c))
