use Rattle.std.proofs.Common.{◌+◌, ◌-◌, length, map, take, drop, sym, ap, ◌∙◌}
use Rattle.std.specs.Prelude.{string_bytes}
use Rattle.ea_flags.specs.Flags.{settings_after, then_read}
use Rattle.ea_flags.proofs.Pairs.{first_two}
use Rattle.ea_flags.proofs.reading.next_setting.Goals as goal

pub returns-in_ok-setting-in-len2-up-clause-some :
    goal.returns-in_ok-setting-in-len2-up-clause-some
returns-in_ok-setting-in-len2-up-clause-some c =
    let split = first_two string_bytes c.args.words.now c.word-item-2.result c.value-item.result
    c.as_bytes-in-len2-up.result.now c.as_bytes-in-len2-up-2.result.now c.in-len2-up.len_at_least
    c.word-item-2.is c.value-item.is c.as_bytes-in-len2-up.ensures.value
    c.as_bytes-in-len2-up-2.ensures.value
    in
    let rest = map string_bytes (take (length c.args.words.now - 2) (drop 2 c.args.words.now)) in
    ap (settings_after c.args.before) split
    ∙ ap (λ r. then_read r (settings_after (c.args.before + 2) rest))
    (sym c.in_ok-setting-in-len2-up.ensures.setting)
