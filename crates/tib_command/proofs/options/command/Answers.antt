use Rattle.std.proofs.Common.{ap, ap₂, codes, true, ◌≡◌, ◌∙◌}
use Rattle.std.proofs.lemmas.Result.{IfOk-weaker}
use Rattle.clap.specs.Simple.{App, app_of_fields}
use Rattle.clap.specs.Words.{app_of, rule_of, with_rule}
use Rattle.tib_command.specs.Command.{bare_app, letter_rule, limit_rule, beam_rule, place_rule}
use Rattle.tib_command.proofs.options.command.Goals as goal

pub returns : goal.returns
returns c =
    let mode_is : rule_of c.letter.result ≡ letter_rule (codes "m") 109 = c.letter.ensures.rule in
    let depth_is : rule_of c.letter-2.result ≡ letter_rule (codes "k") 107 = c.letter-2.ensures.rule in
    let workers_is : rule_of c.letter-3.result ≡ letter_rule (codes "w") 119 = c.letter-3.ensures.rule in
    let limit_is : rule_of c.long.result ≡ limit_rule = c.long.ensures.rule in
    let beam_is : rule_of c.long-2.result ≡ beam_rule = c.long-2.ensures.rule in
    let places_are : rule_of c.places.result ≡ place_rule = c.places.ensures.rule in
    let bare_is : app_of c.disable_version_flag.result ≡ bare_app =
    ap app_of_fields c.disable_version_flag.ensures
    ∙ ap (λ f. app_of_fields (record f { disable_version_flag = true })) c.disable_help_flag.ensures
    ∙ ap (λ f. app_of_fields (record f { disable_help_flag = true; disable_version_flag = true })) c.no_binary_name.ensures
    ∙ ap (λ (a : App). record { top = record a.top { no_binary_name = true; disable_help_flag = true; disable_version_flag = true }; subs = a.subs }) c.new.ensures.app in
    let five = c.in_ok-arg-5.ensures.shape c.long-2.ensures.local
    ∙ ap₂ with_rule (c.in_ok-arg-4.ensures.shape c.long.ensures.local
    ∙ ap₂ with_rule (c.in_ok-arg-3.ensures.shape c.letter-3.ensures.local
    ∙ ap₂ with_rule (c.in_ok-arg-2.ensures.shape c.letter-2.ensures.local
    ∙ ap₂ with_rule (c.in_ok-arg.ensures.shape c.letter.ensures.local ∙ ap₂ with_rule bare_is mode_is) depth_is) workers_is) limit_is) beam_is in
    IfOk-weaker c.arg-6.result _ _ (λ r h. h.shape c.places.ensures.local ∙ ap₂ with_rule five places_are) c.arg-6.ensures
