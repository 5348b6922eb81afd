-- A net in memory, which hands out the posts of a list.
use Rattle.std.specs.Prelude.{◌≡◌, ◌==◌, ◌&&◌, ℕ, ℤ, pos, Bool, true, false, List, [], drop}
use Rattle.std.specs.List.{list_any, list_all}
use Rattle.reql_outside.specs.Chance.{zeros}
use Rattle.reql_outside.specs.Source as source
use Rattle.reql_outside.specs.Source.{Played, is_sound, first}
use Rattle.reql_outside.specs.Tape.{counted}
use Rattle.reql_net.specs.Doors as doors
use Rattle.reql_net.specs.Doors.{Listed}
use Rattle.reql_net.specs.Nets.{NetTold, unasked}
use Rattle.reql_net.specs.declared.net.NetFault.{NetFault}
use Rattle.reql_net.specs.declared.net.NetFault.TheVariants as fault
use Rattle.reql_net.specs.declared.net.Post.{Post}

-- a post in memory
abbrev pub MemPost : Type 0
MemPost = Post Listed (Played (List ℕ)) (Played ℤ)

-- one of empty lists
abbrev pub blank_post : MemPost
blank_post = record {
  door = doors.opening [] [];
  dice = source.opening [] zeros [];
  clock = source.opening [] (pos 0) [];
}

-- its dice and its clock are sound
abbrev pub is_sound_post : MemPost → Bool
is_sound_post post = is_sound post.dice.fails && is_sound post.clock.fails

abbrev pub all_sound : List MemPost → Bool
all_sound posts = list_all is_sound_post posts

-- what it tells, the posts that it has yet to give, how many calls there were, and which of these, from 0, fail
pub record PostsListed : Type 0 where
  pub told : NetTold
  pub posts : List MemPost
  pub calls : ℕ
  pub fails : List ℕ

-- before its first call: it is sound exactly where the dice and the clock of each post are
abbrev pub stocked : List MemPost → List ℕ → PostsListed
stocked posts fails = record { told = unasked (all_sound posts); posts = posts; calls = 0; fails = fails }

abbrev pub fails_now : PostsListed → Bool
fails_now net = list_any (λ k. k == net.calls) net.fails

-- one call for n posts, which gave these: the next n of the list in their order, and past its end posts of empty lists
abbrev pub HandsOut : PostsListed → PostsListed → ℕ → List MemPost → Type 0
HandsOut old new n given =
    (fails_now old ≡ false)
    × (given ≡ first old.posts blank_post n)
    × (new ≡ record old { told = new.told; posts = drop n old.posts; calls = counted old.calls 1 })

-- one call that gave none: it was to fail, and fails for nothing else, or memory was wanted; all posts are left
abbrev pub HandsNone : PostsListed → PostsListed → NetFault → Type 0
HandsNone old new fault.Failed = (fails_now old ≡ true) × (new ≡ record old { told = new.told; calls = counted old.calls 1 })
HandsNone old new fault.Memory = (fails_now old ≡ false) × (new ≡ record old { told = new.told; calls = counted old.calls 1 })
