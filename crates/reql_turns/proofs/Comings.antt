-- What comes of a login, path by path.
use Rattle.std.proofs.Common.{◌≡◌, ◌≢◌, ℕ, List, [], ◌∷◌, Option, Some, None, Result, Ok, Err, refl, sym, ap, ◌∙◌}
use Rattle.std.specs.Prelude.{option_map}
use Rattle.reql_scram.specs.Scram.{Account, Challenge, client_first_of}
use Rattle.reql_scram.specs.Scram as scram
use Rattle.reql_scram.specs.declared.fault.LoginFault.{LoginFault}
use Rattle.reql_scram.specs.declared.fault.LoginFault.TheVariants as fault
use Rattle.reql_login.specs.Messages.{Message, Whole, Oversize, message_of}
use Rattle.reql_login.specs.Fields.{first_text}
use Rattle.reql_login.specs.Turns.{Greeted, Salted, Rolled, Unrolled, Asked, Turn, Waits, Rolls, Says, Admits, Refuses, admits, asked_by, first_turn, last_answer, last_turn, turn_of}
use Rattle.reql_session_api.specs.World.{AtWork}
use Rattle.reql_turns.specs.Rolling.{Rolls as RollsOne}
use Rattle.reql_turns.specs.Logins.{now, rolls, ComesBy, Wants, IsRefused}

-- ---- turns of the machine
pub greeted_turn : (account : Account) (held : List ℕ) (message : Message) → message_of held ≡ message → turn_of account Greeted held ≡ first_turn message
unfolding turn_of
greeted_turn account held message e = ap first_turn e

pub rolls_now : (account : Account) (held message rest text : List ℕ) → message_of held ≡ Whole message rest → first_text message ≡ Ok text → turn_of account Greeted held ≡ Rolls
unfolding turn_of
rolls_now account held message rest text e f = rw (e, f) refl

refused_now : (account : Account) (held message rest : List ℕ) (f : LoginFault) → message_of held ≡ Whole message rest → first_text message ≡ Err f → turn_of account Greeted held ≡ Refuses f
unfolding turn_of
refused_now account held message rest f e g = rw (e, g) refl

rolls_again : (account : Account) (held salt : List ℕ) → turn_of account (Salted salt) held ≡ Rolls
unfolding turn_of
rolls_again account held salt = refl

unrolled : (account : Account) (held : List ℕ) → turn_of account Unrolled held ≡ Refuses fault.DiceFailed
unfolding turn_of
unrolled account held = refl

asks_now : (account : Account) (held message rest text salt roll said : List ℕ) (challenge : Challenge) → message_of held ≡ Whole message rest → first_text message ≡ Ok text
    → option_map (asked_by account salt roll) (client_first_of text) ≡ Some (challenge, said) → turn_of account (Rolled salt roll) held ≡ Says said rest (Asked challenge)
unfolding turn_of
asks_now account held message rest text salt roll said challenge e f g = rw (e, f, g) refl

unread_now : (account : Account) (held message rest text salt roll : List ℕ) → message_of held ≡ Whole message rest → first_text message ≡ Ok text
    → option_map (asked_by account salt roll) (client_first_of text) ≡ None → turn_of account (Rolled salt roll) held ≡ Refuses fault.BadMessage
unfolding turn_of
unread_now account held message rest text salt roll e f g = rw (e, f, g) refl

pub asked_turn : (account : Account) (challenge : Challenge) (held : List ℕ) (message : Message) → message_of held ≡ message → turn_of account (Asked challenge) held ≡ last_turn challenge message
unfolding turn_of
asked_turn account challenge held message e = ap (last_turn challenge) e

pub last_so : (account : Account) (challenge : Challenge) (held message rest : List ℕ) (answer : Result (List ℕ) LoginFault) → message_of held ≡ Whole message rest → last_answer challenge message ≡ answer → turn_of account (Asked challenge) held ≡ admits rest answer
unfolding turn_of
last_so account challenge held message rest answer e f = rw (e, f) refl

-- ---- faults
-- a text of SCRAM was refused for this fault, where memory was not wanted
gives_fault : (meant : Result (List ℕ) LoginFault) (f : LoginFault) → f ≢ fault.Memory → scram.Gives meant (Err f) → meant ≡ Err f
gives_fault meant fault.Oversize n g = g
gives_fault meant fault.BadMessage n g = g
gives_fault meant fault.BadProtocolVersion n g = g
gives_fault meant fault.BadMethod n g = g
gives_fault meant fault.WrongProof n g = g
gives_fault meant fault.DiceFailed n g = g
gives_fault meant fault.Memory n g = absurd (n refl)

-- the first message is refused, or memory was wanted for it
pub first_refused : (account : Account) (held message rest : List ℕ) (f : LoginFault) (w : AtWork) → message_of held ≡ Whole message rest → scram.Gives (first_text message) (Err f) → IsRefused account Greeted held w w f
first_refused account held message rest f w m g = (
  λ e. due (first_text message) refl,
  λ n. record { rolls = []; rolled = refl; comes = now Greeted held (Refuses f) (refused_now account held message rest f m (gives_fault (first_text message) f n g)) },
)
  where
    due : (read : Result (List ℕ) LoginFault) → first_text message ≡ read → Wants account Greeted held w w
    due (Ok text) r = (Rolls, record { rolls = []; rolled = refl; comes = now Greeted held Rolls (rolls_now account held message rest text m r) }, λ z. let f : Rolls ≡ Waits = z in cc)
    due (Err g) r = (Refuses g, record { rolls = []; rolled = refl; comes = now Greeted held (Refuses g) (refused_now account held message rest g m r) }, λ z. let f : Refuses g ≡ Waits = z in cc)

pub oversized : (account : Account) (held : List ℕ) (w : AtWork) → message_of held ≡ Oversize → IsRefused account Greeted held w w fault.Oversize
oversized account held w m = (
  λ e. absurd (let f : fault.Oversize ≡ fault.Memory = e in cc),
  λ n. record { rolls = []; rolled = refl; comes = now Greeted held (Refuses fault.Oversize) (greeted_turn account held Oversize m) },
)

-- the first roll fails, or the second
failed_so : (account : Account) (held : List ℕ) (w x : AtWork) → ComesBy account Greeted held w x (Refuses fault.DiceFailed) → IsRefused account Greeted held w x fault.DiceFailed
failed_so account held w x c = (λ e. absurd (let f : fault.DiceFailed ≡ fault.Memory = e in cc), λ n. c)

pub first_failed : (account : Account) (held message rest text : List ℕ) (w x : AtWork) → message_of held ≡ Whole message rest → first_text message ≡ Ok text → RollsOne w x None → IsRefused account Greeted held w x fault.DiceFailed
first_failed account held message rest text w x m f g = failed_so account held w x (record {
  rolls = None ∷ [];
  rolled = (x, g, refl);
  comes = rolls Greeted held None [] (Refuses fault.DiceFailed) (rolls_now account held message rest text m f) (now Unrolled held (Refuses fault.DiceFailed) (unrolled account held));
})

pub second_failed : (account : Account) (held message rest text salt : List ℕ) (w y x : AtWork) → message_of held ≡ Whole message rest → first_text message ≡ Ok text → RollsOne w y (Some salt) → RollsOne y x None → IsRefused account Greeted held w x fault.DiceFailed
second_failed account held message rest text salt w y x m f g h = failed_so account held w x (record {
  rolls = Some salt ∷ None ∷ [];
  rolled = (y, g, (x, h, refl));
  comes = rolls Greeted held (Some salt) (None ∷ []) (Refuses fault.DiceFailed) (rolls_now account held message rest text m f)
      (rolls (Salted salt) held None [] (Refuses fault.DiceFailed) (rolls_again account held salt) (now Unrolled held (Refuses fault.DiceFailed) (unrolled account held)));
})

-- both were rolled
pub rolled_so : (account : Account) (held message rest text salt roll : List ℕ) (w y x : AtWork) (turn : Turn) → message_of held ≡ Whole message rest → first_text message ≡ Ok text → RollsOne w y (Some salt) → RollsOne y x (Some roll)
    → turn_of account (Rolled salt roll) held ≡ turn → ComesBy account Greeted held w x turn
rolled_so account held message rest text salt roll w y x turn m f g h t = record {
  rolls = Some salt ∷ Some roll ∷ [];
  rolled = (y, g, (x, h, refl));
  comes = rolls Greeted held (Some salt) (Some roll ∷ []) turn (rolls_now account held message rest text m f)
      (rolls (Salted salt) held (Some roll) [] turn (rolls_again account held salt) (now (Rolled salt roll) held turn t));
}

pub asked_so : (account : Account) (held message rest text salt roll said : List ℕ) (challenge : Challenge) (w y x : AtWork) → message_of held ≡ Whole message rest → first_text message ≡ Ok text
    → RollsOne w y (Some salt) → RollsOne y x (Some roll) → option_map (asked_by account salt roll) (client_first_of text) ≡ Some (challenge, said) → ComesBy account Greeted held w x (Says said rest (Asked challenge))
asked_so account held message rest text salt roll said challenge w y x m f g h a =
    rolled_so account held message rest text salt roll w y x (Says said rest (Asked challenge)) m f g h (asks_now account held message rest text salt roll said challenge m f a)

-- memory was wanted then
pub wanted_so : (account : Account) (held message rest text salt roll : List ℕ) (w y x : AtWork) → message_of held ≡ Whole message rest → first_text message ≡ Ok text → RollsOne w y (Some salt) → RollsOne y x (Some roll) → IsRefused account Greeted held w x fault.Memory
wanted_so account held message rest text salt roll w y x m f g h = (
  λ e. due (option_map (asked_by account salt roll) (client_first_of text)) refl,
  λ n. absurd (n refl),
)
  where
    due : (asked : Option (Challenge × List ℕ)) → option_map (asked_by account salt roll) (client_first_of text) ≡ asked → Wants account Greeted held w x
    due None a = (
      Refuses fault.BadMessage,
      rolled_so account held message rest text salt roll w y x (Refuses fault.BadMessage) m f g h (unread_now account held message rest text salt roll m f a),
      λ z. let f : Refuses fault.BadMessage ≡ Waits = z in cc,
    )
    due (Some p) a = (
      Says p.1 rest (Asked p.0),
      asked_so account held message rest text salt roll p.1 p.0 w y x m f g h a,
      λ z. let f : Says p.1 rest (Asked p.0) ≡ Waits = z in cc,
    )

-- ---- the last message
pub last_oversized : (account : Account) (challenge : Challenge) (held : List ℕ) → message_of held ≡ Oversize → (fault.Oversize ≡ fault.Memory → turn_of account (Asked challenge) held ≢ Waits) × (fault.Oversize ≢ fault.Memory → turn_of account (Asked challenge) held ≡ Refuses fault.Oversize)
last_oversized account challenge held m = (λ e. absurd (let f : fault.Oversize ≡ fault.Memory = e in cc), λ n. asked_turn account challenge held Oversize m)

pub last_refused : (account : Account) (challenge : Challenge) (held message rest : List ℕ) (f : LoginFault) → message_of held ≡ Whole message rest → scram.Gives (last_answer challenge message) (Err f)
    → (f ≡ fault.Memory → turn_of account (Asked challenge) held ≢ Waits) × (f ≢ fault.Memory → turn_of account (Asked challenge) held ≡ Refuses f)
last_refused account challenge held message rest f m g = (
  λ e. due (last_answer challenge message) refl,
  λ n. last_so account challenge held message rest (Err f) m (gives_fault (last_answer challenge message) f n g),
)
  where
    due : (answer : Result (List ℕ) LoginFault) → last_answer challenge message ≡ answer → turn_of account (Asked challenge) held ≢ Waits
    due (Ok said) r w = let f : Admits said rest ≡ Waits = sym (last_so account challenge held message rest (Ok said) m r) ∙ w in cc
    due (Err g) r w = let f : Refuses g ≡ Waits = sym (last_so account challenge held message rest (Err g) m r) ∙ w in cc
