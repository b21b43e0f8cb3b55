use Rattle.std.proofs.Common.{◌∙◌, ap, inl, inr, subst}
use Rattle.ea_mem_shared.specs.Memory.{shared_of}
use Rattle.ea_given.specs.Heard.{CanRead, given_told, row_of}
use Rattle.ea_given.proofs.AnswersRead.{all-heard, busy-heard, fetch-heard, look-heard, none-heard}
use Rattle.ea_given.proofs.AnswersRead.{read-heard, take-heard}
use Rattle.ea_given.proofs.heard.answer_of.Goals as goal

pub returns-in-TakeAll : goal.returns-in-TakeAll
returns-in-TakeAll c = all-heard c.args.me (shared_of c.args.shared.now) c.args.wanted
    c.newest.result c.in-TakeAll.is c.newest.ensures

pub returns-in-TakeLink : goal.returns-in-TakeLink
returns-in-TakeLink c =
    let m = c.args.shared.now in
    read-heard c.args.me (shared_of m) c.args.wanted c.in-TakeLink.node c.link_of.result
    c.in-TakeLink.is
    (c.link_of.ensures c.args.me (subst (CanRead m c.args.me) c.in-TakeLink.is c.requires).1)

pub returns-in-Look : goal.returns-in-Look
returns-in-Look c = look-heard c.args.me (shared_of c.args.shared.now) c.args.wanted
    c.in-Look.carrier c.in-Look.last c.word.result c.in-Look.is c.word.ensures

pub returns-in-BusyTry : goal.returns-in-BusyTry
returns-in-BusyTry c = busy-heard c.args.me (shared_of c.args.shared.now) c.args.wanted
    c.in-BusyTry.carrier c.in-BusyTry.seen c.tried.result c.in-BusyTry.is
    (c.tried.ensures _ c.word-in-BusyTry.ensures)

pub returns-in-FetchTry : goal.returns-in-FetchTry
returns-in-FetchTry c = fetch-heard c.args.me (shared_of c.args.shared.now) c.args.wanted
    c.in-FetchTry.carrier c.in-FetchTry.seen c.tried-in-FetchTry.result c.in-FetchTry.is
    (c.tried-in-FetchTry.ensures _ c.word-in-FetchTry.ensures)

pub returns-in-TakeTry : goal.returns-in-TakeTry
returns-in-TakeTry c = take-heard c.args.me (shared_of c.args.shared.now) c.args.wanted
    c.in-TakeTry.name c.taken.result c.in-TakeTry.is
    (c.taken.ensures ∙ ap given_told c.given.ensures)

pub returns-in-Push : goal.returns-in-Push
returns-in-Push c = none-heard c.args.me (shared_of c.args.shared.now) c.args.wanted
    (elim c.in-Push.is [
      | inl a ↦ ap row_of a.2
      | inr r ↦ elim r [
        | inl a ↦ ap row_of a.2
        | inr r ↦ elim r [
          | inl a ↦ ap row_of a.2
          | inr r ↦ elim r [
            | inl a ↦ ap row_of a.2
            | inr r ↦ elim r [
              | inl a ↦ ap row_of a.1
              | inr r ↦ elim r [
                | inl a ↦ ap row_of a.1
                | inr r ↦ elim r [
                  | inl a ↦ ap row_of a.1
                  | inr r ↦ elim r [
                    | inl a ↦ ap row_of a.1
                    | inr is ↦ ap row_of is
                  ]
                ]
              ]
            ]
          ]
        ]
      ]
    ])
