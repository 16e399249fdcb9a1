mod EndLaws
mod ForgetLaws
mod RequestLaws
mod ReplyLaws
