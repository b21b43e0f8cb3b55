use Rattle.ea_trace.proofs.Spaced.{alloc_operands, free_operands, give_operands, realloc_operands}
use Rattle.ea_trace.proofs.Spaced.{take_operands}
use Rattle.ea_trace.proofs.begins.operands.Goals as goal

pub returns-in_ok-bytes-in-Alloc-clause-operands :
    goal.returns-in_ok-bytes-in-Alloc-clause-operands
returns-in_ok-bytes-in-Alloc-clause-operands c = alloc_operands c.in-Alloc.is
    c.in_ok-name-in-Alloc.ensures.begins c.in_ok-bytes-in-Alloc.ensures.begins

pub returns-in_ok-name-in-Free-clause-operands : goal.returns-in_ok-name-in-Free-clause-operands
returns-in_ok-name-in-Free-clause-operands c = free_operands c.in-Free.is
    c.in_ok-name-in-Free.ensures.begins

pub returns-in_ok-bytes-in-Realloc-clause-operands :
    goal.returns-in_ok-bytes-in-Realloc-clause-operands
returns-in_ok-bytes-in-Realloc-clause-operands c = realloc_operands c.in-Realloc.is
    c.in_ok-old-in-Realloc.ensures.begins c.in_ok-fresh-in-Realloc.ensures.begins
    c.in_ok-bytes-in-Realloc.ensures.begins

pub returns-in_ok-to-in-Give-clause-operands : goal.returns-in_ok-to-in-Give-clause-operands
returns-in_ok-to-in-Give-clause-operands c = give_operands c.in-Give.is
    c.in_ok-name-in-Give.ensures.begins c.in_ok-to-in-Give.ensures.begins

pub returns-in_ok-tries-in-Take-clause-operands : goal.returns-in_ok-tries-in-Take-clause-operands
returns-in_ok-tries-in-Take-clause-operands c = take_operands c.in-Take.is
    c.in_ok-name-in-Take.ensures.begins c.in_ok-tries-in-Take.ensures.begins
