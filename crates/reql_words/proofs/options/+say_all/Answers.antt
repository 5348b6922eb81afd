use Rattle.std.proofs.Common.{arith, ◌≡◌, true, false, string_bytes}
use Rattle.std.proofs.lemmas.Grind.{common_steps}
use Rattle.reql_words.specs.Words.{is_whole, said_of}
use Rattle.reql_words.proofs.Going.{after_option, after_whole, one_word, two_words}
use Rattle.reql_words.proofs.options.+say_all.Goals as goal

pub returns-in-Ok : goal.returns-in-Ok
returns-in-Ok t c =
    let whole : is_whole c.as_str-word.result.now ≡ true = grind (arith, common_steps) in
    after_whole c.as_str-word.result.now _ _ (said_of c.args.said.now) (said_of c.with_whole.new.said) (said_of c.say_all.new.said) c.say_all.result
    (one_word string_bytes c.args.words.now c.in-Some.rest.now c.in-Some.word.now _ c.in-Some.ensures.cases.0 c.as_str-word.ensures.value)
    whole
    c.in-Ok.ensures
    c.say_all.ensures

pub returns-in-Ok-with_option : goal.returns-in-Ok-with_option
returns-in-Ok-with_option t c =
    let valued : is_whole c.as_str-word.result.now ≡ false = grind (arith, common_steps) in
    after_option c.as_str-word.result.now c.as_str.result.now _ _ (said_of c.args.said.now) (said_of c.with_option.new.said) (said_of c.say_all-in-Ok-with_option.new.said) c.say_all-in-Ok-with_option.result
    (two_words string_bytes c.args.words.now c.in-Some.rest.now c.in-Some-split_first.rest.now c.in-Some.word.now c.in-Some-split_first.value.now _ _
    c.in-Some.ensures.cases.0 c.in-Some-split_first.ensures.cases.0 c.as_str-word.ensures.value c.as_str.ensures.value)
    valued
    c.in-Ok-with_option.ensures
    c.say_all-in-Ok-with_option.ensures
